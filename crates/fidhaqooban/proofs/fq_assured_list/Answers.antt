-- `fidhaqooban::fq_assured_list` meets its contract: the rule is that of assured choices. Assumes nothing.
use mathlib.Core.Path.{◌∙◌}
use Rattle.analysis.specs.ByRule.{meets, rule_refusal}
use Rattle.choices.specs.Answers.{refusal_by, leaves_by}
use Rattle.assured.specs.Answers.{assured_of, assured_refusal, list_refusal, list_leaves}
use Rattle.fidhaqooban.specs.Answers.{assured_list_refusal, assured_list_number, assured_list_left, listed_by, listed_left}
use Rattle.fidhaqooban.proofs.Minus.{handed}
use Rattle.fidhaqooban.proofs.fq_assured_list.Goals as goal

pub returns : goal.returns
unfolding assured_list_number assured_list_left assured_list_refusal list_refusal list_leaves assured_refusal assured_of listed_by listed_left refusal_by leaves_by rule_refusal meets
returns c =
    let listed = c.list_by in
    record {
      answer = handed listed.result listed.type_inv ∙ listed.ensures.answer;
      left = listed.ensures.left;
    }
