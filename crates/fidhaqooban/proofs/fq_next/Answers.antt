-- `fidhaqooban::fq_next` meets its contract: the rule is the published one. Assumes nothing.
use mathlib.Core.Path.{◌∙◌}
use Rattle.analysis.specs.ByRule.{meets, rule_refusal}
use Rattle.choices.specs.Choices.{passing_of}
use Rattle.choices.specs.Answers.{walk_refusal, start_refusal}
use Rattle.fidhaqooban.specs.Answers.{next_refusal, next_number, next_by}
use Rattle.fidhaqooban.proofs.Minus.{handed}
use Rattle.fidhaqooban.proofs.fq_next.Goals as goal

pub returns : goal.returns
unfolding next_number next_refusal walk_refusal passing_of next_by start_refusal rule_refusal meets
returns c = handed c.next_by.result c.next_by.type_inv ∙ c.next_by.ensures
