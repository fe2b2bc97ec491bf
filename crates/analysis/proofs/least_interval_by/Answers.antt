-- `analysis::least_interval_by` meets its contract. Assumes nothing.
use mathlib.Core.Path.{sym, ◌∙◌}
use Rattle.places.proofs.Answered.{good_of, passed_on, ok_answered, exit_err}
use Rattle.analysis.specs.ByRule.{interval_answer_by}
use Rattle.analysis.proofs.Laws.ByRule.{rule-good, least-answered}
use Rattle.analysis.proofs.least_interval_by.Goals as goal

pub returns-in_err-judge_rule : goal.returns-in_err-judge_rule
unfolding interval_answer_by
returns-in_err-judge_rule c = exit_err _ c.from_residual.ensures ∙ passed_on _ _ _ c.in_err-judge_rule.ensures ∙ sym (least-answered _ _)

pub least-requires : goal.least-requires
least-requires c = rule-good _ _ (good_of _ _ c.in_ok-judge_rule.ensures)

pub returns : goal.returns
unfolding interval_answer_by
returns c = ok_answered _ _ (good_of _ _ c.in_ok-judge_rule.ensures) c.least.ensures ∙ sym (least-answered _ _)
