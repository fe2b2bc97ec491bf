-- `assured::step` meets its contract. Assumes nothing.
use Rattle.sheet.specs.Rules.{shared_refusal}
use Rattle.analysis.specs.ByRule.{meets, rule_refusal}
use Rattle.choices.specs.Answers.{start_refusal, step_by}
use Rattle.assured.specs.Answers.{assured_of, assured_refusal, step_refusal, step_answer}
use Rattle.assured.proofs.step.Goals as goal

pub returns : goal.returns
unfolding step_answer step_refusal assured_of assured_refusal shared_refusal step_by start_refusal rule_refusal meets
returns c = c.step_by.ensures
