-- `cells::spans::grown` meets its contract. Assumes nothing.
use Rattle.cells.specs.Cells.{grown}
use Rattle.cells.proofs.spans.grown.Goals as goal

pub returns-then-is_empty : goal.returns-then-is_empty
unfolding grown
returns-then-is_empty c = simp (← c.is_empty.ensures, c.if-is_empty.true, c.turned-quoted.ensures)

pub returns : goal.returns
unfolding grown
returns c = simp (← c.is_empty.ensures, c.if-is_empty.false, c.turned-quoted.ensures)
