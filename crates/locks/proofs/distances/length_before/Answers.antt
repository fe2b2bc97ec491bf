-- `locks::distances::length_before` meets its contract. Assumes nothing.
use borrow.Author.Tests.{lt-ltb, le-ltb}
use native.Mathlib.Omega.{arith}
use mathlib.Core.Path.{refl}
use Rattle.locks.proofs.distances.length_before.Goals as goal

pub returns-then-distance-limit : goal.returns-then-distance-limit
returns-then-distance-limit c = simp (lt-ltb _ _ c.if-distance-limit.true) record {
  counted = refl;
  small = omega arith;
}

pub returns : goal.returns
returns c = simp (le-ltb _ _ c.if-distance-limit.false) record {
  counted = refl;
  small = omega arith;
}
