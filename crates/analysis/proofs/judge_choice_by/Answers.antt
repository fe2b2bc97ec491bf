-- `analysis::judge_choice_by` meets its contract. Assumes nothing.
use mathlib.Core.Path.{refl, sym, ◌∙◌}
use Rattle.places.proofs.Answered.{good_of, first_refused, then_answered, ok_answered, err_answered, exit_err}
use Rattle.sheet.proofs.Cases.{good-table}
use Rattle.analysis.specs.ByRule.{judged_refusal}
use Rattle.analysis.proofs.Laws.ByRule.{rule-good}
use Rattle.analysis.proofs.judge_choice_by.Goals as goal

pub returns-in_err-judge_rule : goal.returns-in_err-judge_rule
unfolding judged_refusal
returns-in_err-judge_rule c = exit_err _ c.from_residual.ensures ∙ first_refused _ _ _ c.in_err-judge_rule.ensures _

pub all_allowed-requires : goal.all_allowed-requires
all_allowed-requires c = (good-table c.args.table (rule-good _ _ (good_of _ _ c.in_ok-judge_rule.ensures))).count.1

pub returns-then-all_allowed : goal.returns-then-all_allowed
unfolding judged_refusal
returns-then-all_allowed c = ok_answered _ _ (simp (sym c.all_allowed.ensures ∙ c.if-all_allowed.true)) refl ∙ then_answered _ _ (good_of _ _ c.in_ok-judge_rule.ensures)

pub returns-else-all_allowed : goal.returns-else-all_allowed
unfolding judged_refusal
returns-else-all_allowed c = err_answered _ _ (simp (sym c.all_allowed.ensures ∙ c.if-all_allowed.false)) ∙ then_answered _ _ (good_of _ _ c.in_ok-judge_rule.ensures)
