-- `cells::kinds::runs` meets its contract. Assumes nothing.
use Rattle.cells.specs.Kinds.{runs}
use borrow.Author.Rules.{rules}
use Rattle.cells.proofs.kinds.runs.Goals as goal

pub returns : goal.returns
unfolding runs
returns c = search rules
