-- `lines::after` meets its contract. Assumes nothing.
use Rattle.std.proofs.Common.{arith}
use Rattle.std.proofs.lemmas.Grind.{common_steps}
use Rattle.lines.specs.Troubles.{after}
use Rattle.lines.proofs.after.Goals as goal

pub returns : goal.returns
unfolding after
returns c = grind (arith, common_steps)
