-- `cells::kinds::turned` meets its contract. Assumes nothing.
use Rattle.std.proofs.Common.{arith}
use Rattle.std.proofs.lemmas.Grind.{common_steps}
use Rattle.cells.specs.Cells.{turned}
use Rattle.cells.proofs.kinds.turned.Goals as goal

pub returns : goal.returns
unfolding turned
returns c = grind (arith, common_steps)
