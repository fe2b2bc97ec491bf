-- `fidhaqooban::answers::interval_of` meets its contract. Assumes nothing.
use mathlib.Core.Path.{sym, ap, ◌∙◌}
use Rattle.fidhaqooban.specs.Numbers.{answer_of, interval_from}
use Rattle.fidhaqooban.proofs.Minus.{handed}
use Rattle.fidhaqooban.proofs.answers.interval_of.Goals as goal

pub returns-in-Ok : goal.returns-in-Ok
unfolding interval_from
returns-in-Ok c = handed c.answer.result c.answer.type_inv ∙ c.answer.ensures ∙ ap (answer_of 0) c.unwrap_or.ensures ∙ ap interval_from (sym c.in-Ok.is)

pub returns-in-Err : goal.returns-in-Err
unfolding interval_from
returns-in-Err c = handed c.refused.result c.refused.type_inv ∙ c.refused.ensures ∙ ap interval_from (sym c.in-Err.is)
