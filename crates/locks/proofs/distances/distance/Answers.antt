-- `locks::distances::distance` meets its contract. Assumes nothing.
use borrow.Author.Tests.{le-leb, lt-leb}
use Rattle.locks.specs.Distances.{distance}
use Rattle.locks.proofs.distances.distance.Goals as goal

pub returns-then-phase-offset : goal.returns-then-phase-offset
unfolding distance
returns-then-phase-offset c = simp (le-leb _ _ c.if-phase-offset.true)

pub returns : goal.returns
unfolding distance
returns c = simp (lt-leb _ _ c.if-phase-offset.false)
