-- `fidhaqooban::fq_assured_next` meets its contract: the rule is that of assured choices. Assumes nothing.
use mathlib.Core.Path.{◌∙◌}
use Rattle.analysis.specs.ByRule.{meets, rule_refusal}
use Rattle.choices.specs.Answers.{start_refusal}
use Rattle.assured.specs.Answers.{assured_of, assured_refusal, step_refusal}
use Rattle.fidhaqooban.specs.Answers.{assured_next_refusal, assured_next_number, next_by}
use Rattle.fidhaqooban.proofs.Minus.{handed}
use Rattle.fidhaqooban.proofs.fq_assured_next.Goals as goal

pub returns : goal.returns
unfolding assured_next_number assured_next_refusal step_refusal assured_refusal assured_of next_by start_refusal rule_refusal meets
returns c = handed c.next_by.result c.next_by.type_inv ∙ c.next_by.ensures
