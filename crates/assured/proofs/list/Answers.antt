-- `assured::list` meets its contract. Assumes nothing.
use Rattle.sheet.specs.Rules.{shared_refusal}
use Rattle.analysis.specs.ByRule.{meets, rule_refusal}
use Rattle.choices.specs.Answers.{refusal_by, list_by, leaves_by}
use Rattle.assured.specs.Answers.{assured_of, assured_refusal, list_refusal, list_answer, list_leaves}
use Rattle.assured.proofs.list.Goals as goal

pub returns : goal.returns
unfolding list_answer list_leaves list_refusal assured_of assured_refusal shared_refusal list_by leaves_by refusal_by rule_refusal meets
returns c = record {
  answer = c.list_by.ensures.answer;
  left = c.list_by.ensures.left;
}
