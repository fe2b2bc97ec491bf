-- `fidhaqooban::locking::resources` meets its contract: before each turn the resources below are filled. Assumes nothing.
use Prim.Native.Nat.{◌≤◌}
use mathlib.Core.Path.{◌≡◌}
use lib.ListN.{replicate}
use Rattle.places.specs.Places.{filled_below}
use Rattle.fidhaqooban.specs.Locking.{given_resource}
use Rattle.fidhaqooban.proofs.locking.resources.Given as goal

abbrev pub invariant-loop-number : goal.invariant-loop-number
invariant-loop-number l = (l.number ≤ 8) × (l.resources ≡ filled_below (given_resource l.numbers) l.number (replicate 8 (given_resource l.numbers 0)))
