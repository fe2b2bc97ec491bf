-- `cells::numbers::is_well_quoted` meets its contract. Assumes nothing.
use Rattle.std.proofs.Common.{rules}
use Rattle.cells.specs.Numbers.{quotes_refusal}
use Rattle.cells.proofs.numbers.is_well_quoted.Goals as goal

pub returns : goal.returns
unfolding quotes_refusal
returns c = search rules
