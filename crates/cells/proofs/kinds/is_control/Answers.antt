-- `cells::kinds::is_control` meets its contract. Assumes nothing.
use Rattle.std.proofs.Common.{arith}
use Rattle.std.proofs.lemmas.Grind.{common_steps}
use Rattle.cells.specs.Kinds.{is_control}
use Rattle.cells.proofs.kinds.is_control.Goals as goal

pub returns : goal.returns
unfolding is_control
returns c = grind (arith, common_steps)
