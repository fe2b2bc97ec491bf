-- `sheet::read_whole` meets its contract: what is read, but for a shared processor. Assumes nothing.
use mathlib.Core.Path.{sym, ap, ◌∙◌}
use Rattle.places.proofs.Refusals.{next-of}
use Rattle.places.proofs.Answered.{good_of, first_refused, passed_on, ok_answered, exit_err}
use Rattle.sheet.specs.Rules.{shared_refusal, whole_sheet_refusal}
use Rattle.sheet.specs.Answers.{read_answer, whole_answer}
use Rattle.sheet.proofs.Told.{read-told}
use Rattle.sheet.proofs.read_whole.Goals as goal

pub returns-in_err-table : goal.returns-in_err-table
unfolding read_answer whole_answer whole_sheet_refusal
returns-in_err-table c = exit_err _ c.from_residual.ensures ∙ first_refused _ _ _ c.in_err-table.ensures _

pub returns-in_err-judge_shared : goal.returns-in_err-judge_shared
unfolding whole_answer whole_sheet_refusal
returns-in_err-judge_shared c =
    let told = read-told _ c.in_ok-table.ensures in
    exit_err _ c.from_residual-in_err-judge_shared.ensures ∙ rw (next-of _ told.0, ← told.1) (passed_on _ _ _ c.in_err-judge_shared.ensures)

pub returns : goal.returns
unfolding whole_answer whole_sheet_refusal
returns c =
    let told = read-told _ c.in_ok-table.ensures in
    let good = next-of _ told.0 ∙ ap shared_refusal (sym told.1) ∙ good_of _ _ c.in_ok-judge_shared.ensures in
    ok_answered _ _ good (simp (good, told.1))
