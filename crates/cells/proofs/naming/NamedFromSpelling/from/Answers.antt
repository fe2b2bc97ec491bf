-- `Named::from` a spelling meets its contract. Assumes nothing.
use Rattle.std.proofs.Common.{rules}
use Rattle.cells.specs.Names.{named_by}
use Rattle.cells.proofs.naming.NamedFromSpelling.from.Goals as goal

pub returns : goal.returns
unfolding named_by
returns c = search rules
