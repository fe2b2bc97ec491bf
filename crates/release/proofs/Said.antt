-- What the answers of the crates below say: the verdict, a record's outcome, that a sheet that was read is good. Assumes nothing.
use Prim.Native.Nat.{ℕ, ◌<◌}
use mathlib.Core.Path.{◌≡◌, ap, ◌∙◌}
use mathlib.Core.List.{List}
use lib.ListN.{get_or, replicate}
use Rattle.std.specs.Prelude.{Ok}
use Rattle.places.specs.Answered.{answered}
use Rattle.places.proofs.Answered.{value_of}
use Rattle.places.proofs.Filled.{filled_at}
use Rattle.sheet.specs.declared.Table.{Table}
use Rattle.sheet.specs.Rules.{table_refusal}
use Rattle.sheet.specs.Answers.{read_answer}
use Rattle.sheet.proofs.Cases.{good-table}
use Rattle.sheet.proofs.Told.{read-told}
use Rattle.sheet.proofs.Demands.{table-good}
use Rattle.analysis.specs.declared.Entry.{Entry}
use Rattle.analysis.specs.declared.Assessment.{Assessment}
use Rattle.analysis.specs.Told.{times_told}
use Rattle.analysis.specs.Common.Tasks.{own_choice}
use Rattle.analysis.specs.Common.Entries.{entry_from, no_entry, own_tasks, assessed}
use Rattle.analysis.specs.Published.Response.{passes}
use Rattle.analysis.specs.Published.Answers.{entry_of, choice_refusal, choice_assessment, own_assessment}
use Rattle.analysis.proofs.Laws.Common.Choice.{own-refusal}
use Rattle.analysis.proofs.Refused.{assessed-verdict}
use Rattle.release.specs.Rules.{outcome_at}

-- What is answered of a good table is not refused
module _ (t : Table) (good : table_refusal t ≡ 0) where
  unrefused : choice_refusal t (own_choice t) ≡ 0
  unrefused = own-refusal t ∙ good

  pub assessed-fine : (own_assessment t).refusal ≡ 0
  unfolding own_assessment choice_assessment assessed
  assessed-fine = unrefused

  module _ {answer : Assessment} (is : Ok answer ≡ answered (own_assessment t).refusal (times_told (own_assessment t))) where
    -- the verdict is whether its tasks pass
    pub passes-said : answer.passes ≡ passes (own_tasks t)
    unfolding own_assessment
    passes-said = ap (λ (x : Assessment). x.passes) (value_of _ _ is) ∙ (assessed-verdict t (own_choice t) unrefused).1

    entry-said : (place : ℕ) → place < t.count → get_or answer.entries place no_entry ≡ entry_of (own_tasks t) place
    unfolding own_assessment choice_assessment assessed
    entry-said place below =
        ap (λ (x : Assessment). get_or x.entries place no_entry) (value_of _ _ is)
        ∙ simp unrefused (filled_at (entry_of (own_tasks t)) t.count (replicate 8 no_entry) no_entry (good-table t good).count.1 place below)

    -- and each outcome is the record's own
    pub outcome-said : (place : ℕ) → place < t.count → (get_or answer.entries place no_entry).outcome ≡ outcome_at t place
    unfolding entry_of entry_from outcome_at
    outcome-said place below = ap (λ (x : Entry). x.outcome) (entry-said place below)

-- a sheet that was read is good, and so is its table
pub table-read : (sheet : List ℕ) {table : Table} → Ok table ≡ answered (read_answer sheet).refusal (read_answer sheet).table → table_refusal table ≡ 0
table-read sheet read =
    let told = read-told sheet read in
    ap table_refusal told.1 ∙ table-good sheet told.0
