-- `cells::labels::unknown_label` meets its contract. Assumes nothing.
use Rattle.cells.specs.Names.{unknown_label}
use borrow.Author.Rules.{rules}
use Rattle.cells.proofs.labels.unknown_label.Goals as goal

pub returns : goal.returns
unfolding unknown_label
returns c = search rules
