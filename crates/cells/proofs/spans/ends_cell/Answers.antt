-- `cells::spans::ends_cell` meets its contract. Assumes nothing.
use Rattle.cells.specs.Cells.{ends_cell}
use Rattle.cells.proofs.spans.ends_cell.Goals as goal

pub returns : goal.returns
unfolding ends_cell
returns c = simp c.separates.ensures
