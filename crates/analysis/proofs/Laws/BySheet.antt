-- A sheet that is read straight into columns: they hold the tasks of its table by rank, and what is refused is what its table is refused for. Assumes nothing.
use Prim.Native.Nat.{ℕ, ◌<◌, ◌≤◌}
use mathlib.Core.Path.{◌≡◌, sym, ap, subst, ◌∙◌, refl}
use mathlib.Core.Bool.{cond}
use mathlib.Core.List.{List, []}
use mathlib.Core.Logic.{inl}
use native.Mathlib.Decide.{ℕ_discrete}
use native.Mathlib.Omega.{arith}
use borrow.Author.Tests.{ne_eqb}
use lib.Dec.{ltb}
use lib.ListN.{length, get_or, replicate}
use Rattle.std.specs.Prelude.{Ok}
use Rattle.places.specs.Refusals.{or_else}
use Rattle.places.specs.Answered.{answered}
use Rattle.places.proofs.Refusals.{first_of, next-of, else-joined, none_of}
use Rattle.places.proofs.Answered.{good_of, value_of, Known, known_else, known_unless}
use Rattle.sheet.specs.declared.Ranked.{Ranked}
use Rattle.sheet.specs.declared.Table.{Table}
use Rattle.sheet.specs.Layout.{table_of}
use Rattle.sheet.specs.Rules.{sheet_refusal, table_refusal, shared_refusal}
use Rattle.sheet.specs.Answers.{ranked_answer, figures_told, columns_left, faults_left, ranks_left}
use Rattle.sheet.proofs.Told.{sheet-known, table-known, whole-table-known}
use Rattle.sheet.proofs.Cases.{good-table, place-below}
use Rattle.sheet.proofs.Demands.{table-good, ranked-good, columns-ranked, faults-ranked, ranks-ranked}
use Rattle.analysis.specs.declared.Rule.{Rule}
use Rattle.analysis.specs.declared.Rule.TheVariants.{Published, Assured}
use Rattle.analysis.specs.declared.common.by_rank.Frame.{Frame}
use Rattle.analysis.specs.Common.Tasks.{own_choice}
use Rattle.analysis.specs.Common.Entries.{assessed, own_tasks}
use Rattle.analysis.specs.Common.ByRank.{rank_of, frame_of, ColumnsOf, FaultsOf, RanksOf, ranked, InOrder, ChosenIn}
use Rattle.analysis.specs.ByRule.{rule_refusal, place_refusal, choice_assessment_by, own_assessment_by, entry_by, ranked_assessment}
use Rattle.analysis.specs.BySheet.{shared_by, sheet_rule_refusal, sheet_place_refusal, assessed_in}
use Rattle.analysis.proofs.Laws.Common.Choice.{own_at, own-allowed}
use Rattle.analysis.proofs.Laws.ByRule.{own-judged, entry-there, assessed-there}
use Rattle.analysis.proofs.Laws.Common.Columned.{chosen-there, ranks-there}
use Rattle.analysis.proofs.Laws.Bounds.ByRank.{in-ranks-order}

-- a good table is refused under a rule for its round and share only
pub rule-shared : (rule : Rule) (t : Table) → table_refusal t ≡ 0 → rule_refusal rule t ≡ shared_by rule t.round t.share
unfolding rule_refusal shared_by shared_refusal
rule-shared Published t good = good
rule-shared Assured t good = next-of _ good

module _ (s : List ℕ) (good : sheet_refusal s ≡ 0) where
  abbrev table : Table
  table = table_of s

  -- the columns hold the numbers of each record of its table at the record's rank, and beside them its fault priority
  pub sheet-columns : (columns : List ℕ) → length columns ≡ 32 → {left : List ℕ} → left ≡ columns_left s columns → ColumnsOf table left
  unfolding rank_of table_of
  sheet-columns columns long put place below = rw put (columns-ranked s good columns long place below)

  pub sheet-faults : (faults : List ℕ) → length faults ≡ 8 → {left : List ℕ} → left ≡ faults_left s faults → FaultsOf table (own_choice table) left
  unfolding rank_of table_of
  sheet-faults faults long put place below = rw put (faults-ranked s good faults long place below ∙ sym (own_at table place below (good-table table (table-good s good)).count.1))

  -- and at each place stands its record's rank
  pub sheet-ranks : (ranks : List ℕ) → length ranks ≡ 8 → {left : List ℕ} → left ≡ ranks_left s ranks → RanksOf table left
  unfolding rank_of table_of
  sheet-ranks ranks long put place below = rw put (ranks-ranked s good ranks long place below)

  -- so what is read is lent as tasks in order under a choice, and has the entries and the verdict of its table
  module _ {columns : List ℕ} (filled : columns ≡ columns_left s (replicate 32 0)) {frame : Frame} (framed : frame ≡ frame_of table table.interval) where
    pub sheet-order : InOrder (ranked columns frame [])
    sheet-order = in-ranks-order table (table-good s good) columns (sheet-columns (replicate 32 0) refl filled) framed

    module _ {faults : List ℕ} (beside : faults ≡ faults_left s (replicate 8 0)) where
      pub sheet-chosen : ChosenIn (ranked columns frame faults)
      sheet-chosen =
          let sound = table-good s good in
          chosen-there table sound columns (sheet-columns (replicate 32 0) refl filled) (own_choice table) faults (sheet-faults (replicate 8 0) refl beside) framed (own-allowed table sound).each

      module _ {ranks : List ℕ} (put : ranks ≡ ranks_left s (replicate 8 0)) where
        pub sheet-below : (place : ℕ) → place < frame.count → get_or ranks place 0 < frame.count
        sheet-below =
            ranks-there table (table-good s good) columns (sheet-columns (replicate 32 0) refl filled) (own_choice table) faults (sheet-faults (replicate 8 0) refl beside) framed ranks (sheet-ranks (replicate 8 0) refl put)

        pub sheet-entry : (rule : Rule) (place : ℕ) → place < table.count → entry_by rule (ranked columns frame faults) (get_or ranks place 0) ≡ entry_by rule (own_tasks table) place
        sheet-entry rule place below =
            entry-there table (table-good s good) columns (sheet-columns (replicate 32 0) refl filled) (own_choice table) faults (sheet-faults (replicate 8 0) refl beside) framed rule place below (sheet-ranks (replicate 8 0) refl put place below)

        pub sheet-assessed : (rule : Rule) → rule_refusal rule table ≡ 0 → ranked_assessment rule (ranked columns frame faults) ranks ≡ own_assessment_by rule table
        unfolding own_assessment_by
        sheet-assessed rule fine =
            assessed-there table (table-good s good) columns (sheet-columns (replicate 32 0) refl filled) (own_choice table) faults (sheet-faults (replicate 8 0) refl beside) framed rule (own-judged rule table ∙ fine) ranks (sheet-ranks (replicate 8 0) refl put)

  -- a good sheet has eight records at most
  pub table-few : table.count ≤ 8
  table-few = (good-table table (table-good s good)).count.1

-- the frame of what was read is the table's
pub sheet-frame : (s : List ℕ) {read : Ranked} → Ok read ≡ answered (ranked_answer s).refusal (figures_told (ranked_answer s))
    → (sheet_refusal s ≡ 0) × (record { count = read.count; interval = read.interval; round = read.round; share = read.share } ≡ frame_of (table_of s) (table_of s).interval)
unfolding ranked_answer
sheet-frame s is =
    let good = good_of _ _ is in
    (good, ap framed (value_of _ _ is ∙ ap figures_told (ranked-good s good)))
  where
    framed : Ranked → Frame
    framed read = record { count = read.count; interval = read.interval; round = read.round; share = read.share }

-- and what it is refused for by a rule, its table
pub shared-read : (rule : Rule) (s : List ℕ) {read : Ranked} → Ok read ≡ answered (ranked_answer s).refusal (figures_told (ranked_answer s))
    → shared_by rule read.round read.share ≡ rule_refusal rule (table_of s)
shared-read rule s is =
    let told = sheet-frame s is in
    ap (λ (f : Frame). shared_by rule f.round f.share) told.1 ∙ sym (rule-shared rule (table_of s) (table-good s told.0))

-- the refusal for a place is that of the sheet under the rule, then 12
pub place-after : (rule : Rule) (s : List ℕ) (place : ℕ) → sheet_place_refusal rule s place ≡ or_else (sheet_rule_refusal rule s) (cond (ltb place (table_of s).count) 0 12)
unfolding sheet_place_refusal place_refusal sheet_rule_refusal
place-after rule s place = sym (else-joined (sheet_refusal s) (rule_refusal rule (table_of s)) _)

-- each such refusal is a number of the tables
pub rule-known : (rule : Rule) (t : Table) → Known (rule_refusal rule t)
unfolding rule_refusal
rule-known Published t = table-known t
rule-known Assured t = whole-table-known t

pub sheet-rule-known : (rule : Rule) (s : List ℕ) → Known (sheet_rule_refusal rule s)
unfolding sheet_rule_refusal
sheet-rule-known rule s = known_else (sheet-known s) (rule-known rule (table_of s))

pub sheet-place-known : (rule : Rule) (s : List ℕ) (place : ℕ) → Known (sheet_place_refusal rule s place)
sheet-place-known rule s place =
    subst Known (sym (place-after rule s place)) (known_else (sheet-rule-known rule s) (known_unless (ltb place (table_of s).count) 12 (inl (omega arith, omega arith))))

-- not refused, the sheet is good and the place one of a record
pub place-fine : (rule : Rule) (s : List ℕ) (place : ℕ) → sheet_place_refusal rule s place ≡ 0 → (sheet_refusal s ≡ 0) × (place < (table_of s).count)
unfolding sheet_place_refusal place_refusal
place-fine rule s place fine =
    let both = none_of (sheet_refusal s) _ fine in
    (both.0, place-below _ _ (none_of _ _ both.1).1)

-- a good sheet is assessed as its table is
pub assessed-good : (rule : Rule) (s : List ℕ) → sheet_refusal s ≡ 0 → assessed_in rule s ≡ own_assessment_by rule (table_of s)
unfolding assessed_in
assessed-good rule s good = simp good

-- and any is refused for its own rules, then for its table's
pub assessed-refusal : (rule : Rule) (s : List ℕ) → (assessed_in rule s).refusal ≡ sheet_rule_refusal rule s
unfolding sheet_rule_refusal assessed_in own_assessment_by choice_assessment_by assessed
assessed-refusal rule s = go (ℕ_discrete (sheet_refusal s) 0)
  where
    go : Dec (sheet_refusal s ≡ 0) → (assessed_in rule s).refusal ≡ or_else (sheet_refusal s) (rule_refusal rule (table_of s))
    go (yes good) = (simp good (own-judged rule (table_of s))) ∙ sym (next-of _ good)
    go (no broken) = (simp (ne_eqb (sheet_refusal s) 0 broken)) ∙ sym (first_of _ _ broken)
