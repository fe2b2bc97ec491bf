-- `cells::kinds::is_point` meets its contract. Assumes nothing.
use Rattle.cells.specs.Kinds.{is_point}
use borrow.Author.Rules.{rules}
use Rattle.cells.proofs.kinds.is_point.Goals as goal

pub returns : goal.returns
unfolding is_point
returns c = search rules
