-- `analysis::judge_record_place` meets its contract. Assumes nothing.
use mathlib.Core.Path.{refl, ◌∙◌}
use borrow.Author.Tests.{lt-ltb, le-ltb}
use Rattle.places.proofs.Answered.{good_of, first_refused, then_answered, ok_answered, err_answered, exit_err}
use Rattle.analysis.specs.ByRule.{place_refusal}
use Rattle.analysis.proofs.judge_record_place.Goals as goal

pub returns-in_err-judge_rule : goal.returns-in_err-judge_rule
unfolding place_refusal
returns-in_err-judge_rule c = exit_err _ c.from_residual.ensures ∙ first_refused _ _ _ c.in_err-judge_rule.ensures _

pub returns-then-place-table : goal.returns-then-place-table
unfolding place_refusal
returns-then-place-table c = ok_answered _ _ (simp (lt-ltb _ _ c.if-place-table.true)) refl ∙ then_answered _ _ (good_of _ _ c.in_ok-judge_rule.ensures)

pub returns-else-place-table : goal.returns-else-place-table
unfolding place_refusal
returns-else-place-table c = err_answered _ _ (simp (le-ltb _ _ c.if-place-table.false)) ∙ then_answered _ _ (good_of _ _ c.in_ok-judge_rule.ensures)
