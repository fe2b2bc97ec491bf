-- `cells::spans::cells_at_end` meets its contract. Assumes nothing.
use Rattle.cells.specs.Cells.{cells_at_end}
use Rattle.cells.proofs.spans.cells_at_end.Goals as goal

pub returns-then-is_empty : goal.returns-then-is_empty
unfolding cells_at_end
returns-then-is_empty c = simp (← c.is_empty.ensures, c.if-is_empty.true)

pub returns : goal.returns
unfolding cells_at_end
returns c = simp (← c.is_empty.ensures, c.if-is_empty.false) c.with_cell.ensures
