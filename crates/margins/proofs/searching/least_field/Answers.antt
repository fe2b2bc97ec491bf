-- `margins::searching::least_field` meets its contract. Assumes nothing.
use mathlib.Core.Path.{sym, ap}
use Rattle.margins.specs.Margins.{least_field}
use Rattle.margins.proofs.searching.least_field.Goals as goal

pub returns-in-Cost : goal.returns-in-Cost
unfolding least_field
returns-in-Cost c = sym (ap least_field c.in-Cost.is)

pub returns-in-Backup : goal.returns-in-Backup
unfolding least_field
returns-in-Backup c = sym (ap least_field c.in-Backup.is)

pub returns-in-Deadline : goal.returns-in-Deadline
unfolding least_field
returns-in-Deadline c = sym (ap least_field c.in-Deadline.is)

pub returns-in-Period : goal.returns-in-Period
unfolding least_field
returns-in-Period c = sym (ap least_field c.in-Period.is)
