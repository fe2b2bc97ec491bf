-- `cells::kinds::opens` meets its contract. Assumes nothing.
use Rattle.cells.specs.Kinds.{opens}
use borrow.Author.Rules.{rules}
use Rattle.cells.proofs.kinds.opens.Goals as goal

pub returns : goal.returns
unfolding opens
returns c = search rules
