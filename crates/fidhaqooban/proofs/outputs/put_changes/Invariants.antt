-- `fidhaqooban::outputs::put_changes` meets its contract: before each turn the changes below the place are put. Assumes nothing.
use Prim.Native.Nat.{◌≤◌}
use mathlib.Core.Path.{◌≡◌}
use lib.ListN.{length, get_or}
use lib.Seq.{sets}
use Rattle.places.specs.Places.{joined_below}
use Rattle.mend.specs.Changes.{no_change}
use Rattle.fidhaqooban.specs.Numbers.{change_numbers}
use Rattle.fidhaqooban.proofs.outputs.put_changes.Given as goal

abbrev pub invariant-loop-place : goal.invariant-loop-place
invariant-loop-place l = (l.place ≤ l.count) × (length l.out ≡ length l.initial.out) × (l.out ≡ sets l.initial.out 1 (joined_below (λ k. change_numbers (get_or l.list k no_change)) l.place))
