-- `locks::distances::nearer` meets its contract. Assumes nothing.
use native.Mathlib.Omega.{arith}
use Rattle.locks.proofs.distances.nearer.Goals as goal

pub returns-then-distance-near : goal.returns-then-distance-near
returns-then-distance-near c = simp c.if-counts.true (omega arith)

pub returns-else-distance-near : goal.returns-else-distance-near
returns-else-distance-near c = simp c.if-counts.true (omega arith)

pub returns-else-counts : goal.returns-else-counts
returns-else-counts c = simp c.if-counts.false
