-- `cores::read` meets its contract. Assumes nothing.
use mathlib.Core.Path.{◌∙◌}
use Rattle.places.proofs.Refusals.{next-of}
use Rattle.places.proofs.Answered.{good_of, first_refused, passed_on, then_answered, ok_answered, exit_err}
use Rattle.sheet.specs.Answers.{whole_answer}
use Rattle.sheet.proofs.Told.{whole-told}
use Rattle.cores.specs.Answers.{box_refusal}
use Rattle.cores.proofs.read.Goals as goal

pub returns-in_err-table : goal.returns-in_err-table
unfolding whole_answer box_refusal
returns-in_err-table c = exit_err _ c.from_residual.ensures ∙ first_refused _ _ _ c.in_err-table.ensures _

pub returns-in_err-judge_number : goal.returns-in_err-judge_number
unfolding box_refusal
returns-in_err-judge_number c =
    exit_err _ c.from_residual-in_err-judge_number.ensures ∙ passed_on _ _ _ c.in_err-judge_number.ensures ∙ then_answered _ _ (whole-told _ c.in_ok-table.ensures).0

pub returns : goal.returns
unfolding box_refusal
returns c =
    let told = whole-told _ c.in_ok-table.ensures in
    ok_answered _ _ (next-of _ told.0 ∙ good_of _ _ c.in_ok-judge_number.ensures) told.1
