-- `cells::kinds::closes` meets its contract. Assumes nothing.
use Rattle.cells.specs.Kinds.{closes}
use borrow.Author.Rules.{rules}
use Rattle.cells.proofs.kinds.closes.Goals as goal

pub returns : goal.returns
unfolding closes
returns c = search rules
