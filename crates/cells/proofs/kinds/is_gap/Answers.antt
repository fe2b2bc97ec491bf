-- `cells::kinds::is_gap` meets its contract. Assumes nothing.
use Rattle.cells.specs.Kinds.{is_gap}
use Rattle.cells.proofs.kinds.is_gap.Goals as goal

pub returns : goal.returns
unfolding is_gap
returns c = simp c.is_blank.ensures
