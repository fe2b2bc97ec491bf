-- `choices::Walk::step` meets its contract. Assumes nothing.
use Rattle.analysis.specs.ByRule.{meets, rule_refusal}
use Rattle.choices.specs.Choices.{passing_of}
use Rattle.choices.specs.Answers.{walk_refusal, start_refusal, step_answer, step_by}
use Rattle.choices.proofs.Walk.step.Goals as goal

pub returns : goal.returns
unfolding step_answer step_by walk_refusal start_refusal rule_refusal passing_of meets
returns c = c.step_by.ensures
