-- `locks::ceilings::bars` meets its contract. Assumes nothing.
use Rattle.locks.specs.Ceilings.{held_by_another, bars}
use Rattle.locks.proofs.ceilings.bars.Goals as goal

pub returns : goal.returns
unfolding bars held_by_another
returns c = simp c.ceiling.ensures
