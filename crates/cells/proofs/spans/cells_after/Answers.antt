-- `cells::spans::cells_after` meets its contract. Assumes nothing.
use Rattle.cells.specs.Cells.{cells_after}
use Rattle.cells.proofs.spans.cells_after.Goals as goal

pub returns-then-ends_cell-runs : goal.returns-then-ends_cell-runs
unfolding cells_after
returns-then-ends_cell-runs c = simp (← c.ends_cell.ensures, ← c.runs.ensures, ← c.is_empty.ensures, c.if-ends_cell-runs.true) c.with_cell.ensures

pub returns : goal.returns
unfolding cells_after
returns c = simp (← c.ends_cell.ensures, ← c.runs.ensures, ← c.is_empty.ensures, c.if-ends_cell-runs.false)
