-- `cells::kinds::is_digit` meets its contract. Assumes nothing.
use Rattle.std.proofs.Common.{arith}
use Rattle.std.proofs.lemmas.Grind.{common_steps}
use Rattle.cells.specs.Kinds.{is_digit}
use Rattle.cells.proofs.kinds.is_digit.Goals as goal

pub returns : goal.returns
unfolding is_digit
returns c = grind (arith, common_steps)
