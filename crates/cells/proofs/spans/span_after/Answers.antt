-- `cells::spans::span_after` meets its contract. Assumes nothing.
use Rattle.cells.specs.Cells.{span_after}
use Rattle.cells.proofs.spans.span_after.Goals as goal

pub returns-then-ends_cell : goal.returns-then-ends_cell
unfolding span_after
returns-then-ends_cell c = simp (← c.ends_cell.ensures, c.if-ends_cell.true) c.empty_at.ensures

pub returns : goal.returns
unfolding span_after
returns c = simp (← c.ends_cell.ensures, c.if-ends_cell.false) c.within.ensures
