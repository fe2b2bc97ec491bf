-- The table is `sheet::read_unjudged`'s of the input's bytes, zeros where they are refused. Assumes nothing.
use Rattle.std.proofs.Common.{◌≡◌, ℕ, List, ne_eqb}
use Rattle.places.proofs.Answered.{value_of, broken_of}
use Rattle.sheet.specs.Layout.{no_table}
use Rattle.sheet.specs.Rules.{header_refusal}
use Rattle.sheet.specs.Answers.{unjudged_answer}
use Rattle.intake.specs.Inputs.{given_table}
use borrow.Author.Rules.{rules}
use Rattle.intake.proofs.sheets.unjudged.Goals as goal

-- beside a refusal stands a table of zeros
none : (s : List ℕ) → (header_refusal s ≡ 0 → ⊥) → no_table ≡ (unjudged_answer s).table
unfolding unjudged_answer
none s broken = simp (ne_eqb (header_refusal s) 0 broken)

pub returns-in-Ok : goal.returns-in-Ok
unfolding given_table
returns-in-Ok c =
    let read = value_of _ _ c.in-Ok.ensures in
    search rules

pub returns-in-Err : goal.returns-in-Err
unfolding given_table unjudged_answer
returns-in-Err c =
    let zeros = none _ (broken_of _ _ c.in-Err.ensures) in
    search rules
