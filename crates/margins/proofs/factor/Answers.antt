-- `margins::factor` meets its contract. Assumes nothing.
use mathlib.Core.Path.{sym, ◌∙◌}
use Rattle.places.proofs.Answered.{good_of, passed_on, ok_answered, exit_err}
use Rattle.margins.specs.Answers.{factor_answer}
use Rattle.margins.proofs.Stepped.{furthest-answered}
use Rattle.margins.proofs.factor.Goals as goal

pub returns-in_err-judge_rule : goal.returns-in_err-judge_rule
unfolding factor_answer
returns-in_err-judge_rule c = exit_err _ c.from_residual.ensures ∙ passed_on _ _ _ c.in_err-judge_rule.ensures ∙ sym (furthest-answered _ _)

pub found-requires : goal.found-requires
found-requires c = record {
  good = good_of _ _ c.in_ok-judge_rule.ensures;
  placed = tt;
}

pub returns : goal.returns
unfolding factor_answer
returns c = ok_answered _ _ (good_of _ _ c.in_ok-judge_rule.ensures) c.found.ensures ∙ sym (furthest-answered _ _)
