-- `cells::spans::is_empty` meets its contract. Assumes nothing.
use Rattle.cells.specs.Cells.{is_empty}
use borrow.Author.Rules.{rules}
use Rattle.cells.proofs.spans.is_empty.Goals as goal

pub returns : goal.returns
unfolding is_empty
returns c = search rules
