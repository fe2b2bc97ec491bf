-- `fidhaqooban::locking::starts` meets its contract: before each turn the jobs below are filled. Assumes nothing.
use Prim.Native.Nat.{◌≤◌}
use mathlib.Core.Path.{◌≡◌}
use lib.ListN.{replicate}
use Rattle.places.specs.Places.{filled_below}
use Rattle.fidhaqooban.specs.Locking.{given_job}
use Rattle.fidhaqooban.proofs.locking.starts.Given as goal

abbrev pub invariant-loop-place : goal.invariant-loop-place
invariant-loop-place l = (l.place ≤ 8) × (l.jobs ≡ filled_below (given_job l.numbers l.uses) l.place (replicate 8 (given_job l.numbers l.uses 0)))
