-- `cells::spans::with_cell` meets its contract. Assumes nothing.
use Rattle.cells.specs.Cells.{with_cell}
use borrow.Author.Tests.{lt-ltb, le-ltb}
use Rattle.cells.proofs.spans.with_cell.Goals as goal

pub returns-then-count-ge8 : goal.returns-then-count-ge8
unfolding with_cell
returns-then-count-ge8 c = simp (le-ltb _ _ c.if-count-ge8.true)

pub returns : goal.returns
unfolding with_cell
returns c = simp (lt-ltb _ _ c.if-count-ge8.false)
