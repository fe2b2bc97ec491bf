-- `fidhaqooban::fq_list` meets its contract: the rule is the published one. Assumes nothing.
use mathlib.Core.Path.{◌∙◌}
use Rattle.analysis.specs.ByRule.{meets, rule_refusal}
use Rattle.choices.specs.Choices.{passing_of}
use Rattle.choices.specs.Answers.{list_refusal, list_leaves, refusal_by, leaves_by}
use Rattle.fidhaqooban.specs.Answers.{listing_refusal, list_number, list_left, listed_by, listed_left}
use Rattle.fidhaqooban.proofs.Minus.{handed}
use Rattle.fidhaqooban.proofs.fq_list.Goals as goal

pub returns : goal.returns
unfolding list_number list_left listing_refusal list_refusal list_leaves passing_of listed_by listed_left refusal_by leaves_by rule_refusal meets
returns c =
    let listed = c.list_by in
    record {
      answer = handed listed.result listed.type_inv ∙ listed.ensures.answer;
      left = listed.ensures.left;
    }
