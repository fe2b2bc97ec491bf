-- `text::scaling::up` meets its contract. Assumes nothing.
use Rattle.std.proofs.Common.{arith}
use Rattle.std.proofs.lemmas.Grind.{common_steps}
use Rattle.text.specs.Scaling.{up}
use Rattle.text.proofs.scaling.up.Goals as goal

pub returns : goal.returns
unfolding up
returns c = grind (arith, common_steps)
