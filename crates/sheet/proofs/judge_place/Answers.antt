-- `sheet::judge_place` meets its contract. Assumes nothing.
use mathlib.Core.Path.{refl, ◌∙◌}
use borrow.Author.Tests.{lt-ltb, le-ltb}
use Rattle.places.proofs.Answered.{good_of, value_of, first_refused, then_answered, ok_answered, err_answered, exit_err}
use Rattle.sheet.specs.Answers.{place_refusal}
use Rattle.sheet.proofs.judge_place.Goals as goal

pub returns-in_err-records : goal.returns-in_err-records
unfolding place_refusal
returns-in_err-records c = exit_err _ c.from_residual.ensures ∙ first_refused _ _ _ c.in_err-records.ensures _

pub returns-then-place-records : goal.returns-then-place-records
unfolding place_refusal
returns-then-place-records c =
    let below = rw (value_of _ _ c.in_ok-records.ensures) at c.if-place-records.true in
    ok_answered _ _ (simp (lt-ltb _ _ below)) refl ∙ then_answered _ _ (good_of _ _ c.in_ok-records.ensures)

pub returns-else-place-records : goal.returns-else-place-records
unfolding place_refusal
returns-else-place-records c =
    let above = rw (value_of _ _ c.in_ok-records.ensures) at c.if-place-records.false in
    err_answered _ _ (simp (le-ltb _ _ above)) ∙ then_answered _ _ (good_of _ _ c.in_ok-records.ensures)
