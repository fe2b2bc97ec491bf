-- `margins::changing::with_value` meets its contract. Assumes nothing.
use mathlib.Core.Path.{sym, ap}
use Rattle.margins.specs.declared.Field.{Field}
use Rattle.margins.specs.Changes.{with_value}
use Rattle.margins.proofs.changing.with_value.Goals as goal

pub returns-in-Cost : goal.returns-in-Cost
unfolding with_value
returns-in-Cost c = sym (ap (λ (f : Field). with_value f c.args.value c.args.task) c.in-Cost.is)

pub returns-in-Backup : goal.returns-in-Backup
unfolding with_value
returns-in-Backup c = sym (ap (λ (f : Field). with_value f c.args.value c.args.task) c.in-Backup.is)

pub returns-in-Deadline : goal.returns-in-Deadline
unfolding with_value
returns-in-Deadline c = sym (ap (λ (f : Field). with_value f c.args.value c.args.task) c.in-Deadline.is)

pub returns-in-Period : goal.returns-in-Period
unfolding with_value
returns-in-Period c = sym (ap (λ (f : Field). with_value f c.args.value c.args.task) c.in-Period.is)
