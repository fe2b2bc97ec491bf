-- `fidhaqooban::fq_least_interval` meets its contract. Assumes nothing.
use mathlib.Core.Path.{◌∙◌}
use Rattle.fidhaqooban.specs.Answers.{interval_number}
use Rattle.fidhaqooban.proofs.Minus.{handed}
use Rattle.fidhaqooban.proofs.Answered.{interval-is, sheet-refused}
use Rattle.fidhaqooban.proofs.fq_least_interval.Goals as goal

pub returns-in-Ok : goal.returns-in-Ok
returns-in-Ok c = handed c.interval_of.result c.interval_of.type_inv ∙ c.interval_of.ensures ∙ interval-is c.args.sheet.now c.in-Ok.ensures c.least_interval.ensures

pub returns-in-Err : goal.returns-in-Err
unfolding interval_number
returns-in-Err c = handed c.refused.result c.refused.type_inv ∙ c.refused.ensures ∙ sheet-refused c.args.sheet.now c.in-Err.ensures _
