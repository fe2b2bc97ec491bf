-- `cells::numbers::between` meets its contract. Assumes nothing.
use Rattle.cells.specs.Numbers.{between}
use borrow.Author.Rules.{rules}
use Rattle.cells.proofs.numbers.between.Goals as goal

pub returns : goal.returns
unfolding between
returns c = search rules
