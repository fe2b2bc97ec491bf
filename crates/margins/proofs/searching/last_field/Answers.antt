-- `margins::searching::last_field` meets its contract. Assumes nothing.
use mathlib.Core.Path.{sym, ap}
use Rattle.margins.specs.declared.Field.{Field}
use Rattle.margins.specs.Margins.{last_field}
use borrow.Author.Rules.{rules}
use Rattle.margins.proofs.searching.last_field.Goals as goal

pub returns-in-Cost : goal.returns-in-Cost
unfolding last_field
returns-in-Cost c = (sym (ap (λ (f : Field). last_field f c.args.task) c.in-Cost.is), search rules)

pub returns-in-Backup : goal.returns-in-Backup
unfolding last_field
returns-in-Backup c = (sym (ap (λ (f : Field). last_field f c.args.task) c.in-Backup.is), search rules)

pub returns-in-Deadline : goal.returns-in-Deadline
unfolding last_field
returns-in-Deadline c = (sym (ap (λ (f : Field). last_field f c.args.task) c.in-Deadline.is), search rules)

pub returns-in-Period : goal.returns-in-Period
unfolding last_field
returns-in-Period c = (sym (ap (λ (f : Field). last_field f c.args.task) c.in-Period.is), search rules)
