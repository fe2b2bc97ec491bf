-- `cells::kinds::is_loose` meets its contract. Assumes nothing.
use Rattle.cells.specs.Kinds.{is_loose}
use Rattle.cells.proofs.kinds.is_loose.Goals as goal

pub returns : goal.returns
unfolding is_loose
returns c = simp c.is_blank.ensures
