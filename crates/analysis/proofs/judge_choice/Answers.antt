-- `analysis::judge_choice` meets its contract. Assumes nothing.
use Rattle.analysis.specs.Published.Answers.{choice_refusal}
use Rattle.analysis.specs.ByRule.{rule_refusal, judged_refusal}
use Rattle.analysis.proofs.judge_choice.Goals as goal

pub returns : goal.returns
unfolding choice_refusal judged_refusal rule_refusal
returns c = c.judge_choice_by.ensures
