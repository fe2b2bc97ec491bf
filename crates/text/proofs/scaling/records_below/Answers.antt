-- `text::scaling::records_below` meets its contract: before each turn the records below the place are made. Assumes nothing.
use mathlib.Core.Path.{sym, ap₂, ◌∙◌}
use native.Mathlib.Omega.{arith}
use lib.ListN.{set}
use Rattle.text.specs.Scaling.{records_below, task_of}
use Rattle.text.proofs.Turned.{records-more}
use mathlib.Core.List.{List}
use Rattle.sheet.specs.declared.Record.{Record}
use borrow.Author.Rules.{rules}
use Rattle.text.proofs.scaling.records_below.Goals as goal

pub loop-place-init : goal.loop-place-init
unfolding records_below
loop-place-init c = (omega arith, simp c.no_record-records.ensures)

pub loop-place-preserved : goal.loop-place-preserved
unfolding task_of
loop-place-preserved c = (search rules, ap₂ (λ (l : List Record) (r : Record). set l c.loop-place.place r) c.loop-place.invariant.1 c.scaled_task.ensures ∙ sym (records-more _ c.loop-place.place _))
