-- `locks::bits::highest_user` meets its contract: before each turn the highest of the places below is known. Assumes nothing.
use Prim.Native.Nat.{◌≤◌}
use mathlib.Core.Path.{◌≡◌}
use Rattle.places.specs.Places.{highest_below}
use Rattle.locks.specs.Bits.{has_bit}
use Rattle.locks.proofs.bits.highest_user.Given as goal

abbrev pub invariant-loop-place : goal.invariant-loop-place
invariant-loop-place l = (l.place ≤ 8) × (l.highest ≡ highest_below (has_bit l.users) l.place)
