-- `fidhaqooban::answers::number` meets its contract. Assumes nothing.
use mathlib.Core.Path.{sym, ap, ◌∙◌}
use Rattle.fidhaqooban.specs.Numbers.{number_from}
use Rattle.fidhaqooban.proofs.Minus.{handed}
use Rattle.fidhaqooban.proofs.answers.number.Goals as goal

pub returns-in-Ok : goal.returns-in-Ok
unfolding number_from
returns-in-Ok c = handed c.answer.result c.answer.type_inv ∙ c.answer.ensures ∙ ap number_from (sym c.in-Ok.is)

pub returns-in-Err : goal.returns-in-Err
unfolding number_from
returns-in-Err c = handed c.refused.result c.refused.type_inv ∙ c.refused.ensures ∙ ap number_from (sym c.in-Err.is)
