-- `text::naming::put_tasks` meets its contract: before each turn the lines of the tasks below the place are put. Assumes nothing.
use Prim.Native.Nat.{◌+◌, ◌*◌, ◌≤◌}
use mathlib.Core.Path.{◌≡◌}
use Rattle.places.specs.Places.{joined_below}
use Rattle.text.specs.Named.{named_line}
use Rattle.text.specs.Putting.{Put}
use Rattle.text.proofs.naming.put_tasks.Given as goal

abbrev pub invariant-loop-place : goal.invariant-loop-place
invariant-loop-place l = (l.place ≤ l.count) × (l.end ≡ l.at + 117 * l.place) × Put l.initial.out l.at (joined_below (named_line l.records l.names) l.place) (117 * l.place) l.out
