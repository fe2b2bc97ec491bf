-- `cells::kinds::lower` meets its contract. Assumes nothing.
use Rattle.std.proofs.Common.{arith}
use Rattle.std.proofs.lemmas.Grind.{common_steps}
use Rattle.cells.specs.Kinds.{lower}
use Rattle.cells.proofs.kinds.lower.Goals as goal

pub returns : goal.returns
unfolding lower
returns c = grind (arith, common_steps)
