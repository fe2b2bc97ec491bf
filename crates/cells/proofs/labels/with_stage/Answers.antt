-- `cells::labels::with_stage` meets its contract. Assumes nothing.
use Rattle.cells.specs.Names.{with_stage}
use borrow.Author.Rules.{rules}
use Rattle.cells.proofs.labels.with_stage.Goals as goal

pub returns : goal.returns
unfolding with_stage
returns c = search rules
