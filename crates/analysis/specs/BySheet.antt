-- What the calls answer that are asked of a sheet's bytes: what is answered for the table that they hold, after the sheet's own refusal.
use Rattle.std.specs.Prelude.{ℕ, cond, List, eqb, ltb}
use Rattle.places.specs.Refusals.{or_else}
use Rattle.sheet.specs.Told.{Ranked}
use Rattle.sheet.specs.Layout.{is_whole, table_of}
use Rattle.sheet.specs.Rules.{sheet_refusal}
use Rattle.analysis.specs.Told.{Assessment, Timed}
use Rattle.analysis.specs.declared.Rule.{Rule}
use Rattle.analysis.specs.declared.Rule.TheVariants.{Published, Assured}
use Rattle.analysis.specs.Common.Entries.{no_entry, own_tasks, untimed}
use Rattle.analysis.specs.ByRule.{rule_refusal, entry_by, place_refusal, own_assessment_by}

-- the refusal of `time_in`: the sheet's, then that of `time_by` for its table
unfoldable pub sheet_place_refusal : Rule → List ℕ → ℕ → ℕ
sheet_place_refusal rule sheet place = or_else (sheet_refusal sheet) (place_refusal rule (table_of sheet) place)

-- `time_in`: the refusal beside the record's entry by a rule
unfoldable pub timed_in : Rule → List ℕ → ℕ → Timed
timed_in rule sheet place =
    record {
      refusal = sheet_place_refusal rule sheet place;
      entry = cond (eqb (sheet_place_refusal rule sheet place) 0) (entry_by rule (own_tasks (table_of sheet)) place) no_entry;
    }

-- `assess_in`: what `assess_by` answers for the table, or the sheet's refusal beside no times and no
unfoldable pub assessed_in : Rule → List ℕ → Assessment
assessed_in rule sheet = cond (eqb (sheet_refusal sheet) 0) (own_assessment_by rule (table_of sheet)) (untimed (sheet_refusal sheet))

-- what a round and a share are refused for by a rule: by the assured rule, which speaks of the whole processor, with 19
unfoldable pub shared_by : Rule → ℕ → ℕ → ℕ
shared_by Published round share = 0
shared_by Assured round share = cond (is_whole round share) 0 19

-- the refusal of `assess_in` out of what was read of a sheet, and that of `time_in`
unfoldable pub read_refusal : Rule → Ranked → ℕ
read_refusal rule read = or_else read.refusal (shared_by rule read.round read.share)

unfoldable pub read_place_refusal : Rule → Ranked → ℕ → ℕ
read_place_refusal rule read place = or_else (read_refusal rule read) (cond (ltb place read.count) 0 12)

-- the refusal of a sheet under a rule: its own, then its table's
unfoldable pub sheet_rule_refusal : Rule → List ℕ → ℕ
sheet_rule_refusal rule sheet = or_else (sheet_refusal sheet) (rule_refusal rule (table_of sheet))
