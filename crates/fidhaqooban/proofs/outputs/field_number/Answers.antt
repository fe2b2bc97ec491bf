-- `fidhaqooban::outputs::field_number` meets its contract. Assumes nothing.
use mathlib.Core.Path.{sym, ap}
use Rattle.mend.specs.Changes.{field_number}
use Rattle.fidhaqooban.proofs.outputs.field_number.Goals as goal

pub returns-in-Length : goal.returns-in-Length
unfolding field_number
returns-in-Length c = sym (ap field_number c.in-Length.is)

pub returns-in-Deadline : goal.returns-in-Deadline
unfolding field_number
returns-in-Deadline c = sym (ap field_number c.in-Deadline.is)

pub returns-in-FaultPriority : goal.returns-in-FaultPriority
unfolding field_number
returns-in-FaultPriority c = sym (ap field_number c.in-FaultPriority.is)
