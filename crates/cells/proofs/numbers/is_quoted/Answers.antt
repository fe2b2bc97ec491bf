-- `cells::numbers::is_quoted` meets its contract. Assumes nothing.
use Rattle.cells.specs.Numbers.{is_quoted}
use Rattle.cells.proofs.numbers.is_quoted.Goals as goal

pub returns : goal.returns
unfolding is_quoted
returns c = simp c.byte_at.ensures
