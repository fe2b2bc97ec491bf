-- `cells::kinds::is_blank` meets its contract. Assumes nothing.
use Rattle.cells.specs.Kinds.{is_blank}
use borrow.Author.Rules.{rules}
use Rattle.cells.proofs.kinds.is_blank.Goals as goal

pub returns : goal.returns
unfolding is_blank
returns c = search rules
