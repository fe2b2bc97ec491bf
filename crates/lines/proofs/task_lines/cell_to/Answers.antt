-- `lines::task_lines::cell_to` meets its contract. Assumes nothing.
use Rattle.lines.specs.Tasks.{cell_to}
use borrow.Author.Tests.{le-leb, lt-leb}
use Rattle.lines.proofs.task_lines.cell_to.Goals as goal

pub returns-then-is_refused : goal.returns-then-is_refused
unfolding cell_to
returns-then-is_refused c = simp (← c.is_refused.ensures, c.if-is_refused.true)

pub returns-then-layout-place : goal.returns-then-layout-place
unfolding cell_to
returns-then-layout-place c = simp (← c.is_refused.ensures, c.if-is_refused.false, le-leb _ _ c.if-layout-place.true) c.fails.ensures

pub returns : goal.returns
unfolding cell_to
returns c = simp (← c.is_refused.ensures, c.if-is_refused.false, lt-leb _ _ c.if-layout-place.false, ← c.field_at.ensures) c.cell_as.ensures
