-- `locks::ceilings::ceiling` meets its contract. Assumes nothing.
use Rattle.locks.specs.Ceilings.{ceiling_of}
use Rattle.locks.proofs.ceilings.ceiling.Goals as goal

pub returns-then-is_critical : goal.returns-then-is_critical
unfolding ceiling_of
returns-then-is_critical c = simp c.if-is_critical.true

pub returns : goal.returns
unfolding ceiling_of
returns c = simp c.if-is_critical.false c.highest_user.ensures
