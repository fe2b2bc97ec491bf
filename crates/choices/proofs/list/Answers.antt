-- `choices::list` meets its contract. Assumes nothing.
use Rattle.analysis.specs.ByRule.{meets, rule_refusal}
use Rattle.choices.specs.Choices.{passing_of}
use Rattle.choices.specs.Answers.{list_refusal, list_answer, list_leaves, refusal_by, list_by, leaves_by}
use Rattle.choices.proofs.list.Goals as goal

pub returns : goal.returns
unfolding list_answer list_leaves list_refusal list_by leaves_by refusal_by rule_refusal passing_of meets
returns c = record {
  answer = c.list_by.ensures.answer;
  left = c.list_by.ensures.left;
}
