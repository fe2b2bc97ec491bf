-- `text::scaling::records_below` meets its contract: before each turn the records below the place are made. Assumes nothing.
use mathlib.Core.Path.{◌≡◌}
use Prim.Native.Nat.{◌≤◌}
use Rattle.text.specs.Scaling.{records_below}
use Rattle.text.proofs.scaling.records_below.Given as goal

abbrev pub invariant-loop-place : goal.invariant-loop-place
invariant-loop-place l = (l.place ≤ l.count) × (l.records ≡ records_below l.tasks l.scale l.place)
