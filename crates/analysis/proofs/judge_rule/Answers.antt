-- `analysis::judge_rule` meets its contract. Assumes nothing.
use mathlib.Core.Path.{sym, ap, ◌∙◌}
use Rattle.places.specs.Answered.{answered}
use Rattle.analysis.specs.declared.Rule.{Rule}
use Rattle.analysis.specs.ByRule.{rule_refusal}
use Rattle.analysis.proofs.judge_rule.Goals as goal

pub returns-in-Published : goal.returns-in-Published
unfolding rule_refusal
returns-in-Published c = c.judge_table.ensures ∙ sym (ap (λ (rule : Rule). answered (rule_refusal rule c.args.table) (tt {0})) c.in-Published.is)

pub returns-in-Assured : goal.returns-in-Assured
unfolding rule_refusal
returns-in-Assured c = c.judge_whole.ensures ∙ sym (ap (λ (rule : Rule). answered (rule_refusal rule c.args.table) (tt {0})) c.in-Assured.is)
