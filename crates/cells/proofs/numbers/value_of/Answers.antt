-- `cells::numbers::value_of` meets its contract: the number that digits spell is a fold over them. Assumes nothing.
use Rattle.std.proofs.lemmas.Grind.{common_steps}
use Rattle.std.proofs.Common.{arith}
use Rattle.cells.proofs.Turns.{value_folds}
use Rattle.cells.proofs.numbers.value_of.Goals as goal

pub returns : goal.returns
returns c = grind (arith, common_steps, value_folds, c.fold.ensures.runs)
