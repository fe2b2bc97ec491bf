-- `text::scaling::least_of` meets its contract. Assumes nothing.
use Rattle.std.proofs.Common.{arith}
use Rattle.std.proofs.lemmas.Grind.{common_steps}
use Rattle.text.specs.Scaling.{least_of, number_at}
use Rattle.text.proofs.scaling.least_of.Goals as goal

pub returns : goal.returns
unfolding least_of number_at
returns c = grind (arith, common_steps)
