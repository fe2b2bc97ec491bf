-- `sheet::layout::put_records` meets its contract: before each turn the records below the place are put. Assumes nothing.
use Prim.Native.Nat.{◌≤◌}
use mathlib.Core.Path.{◌≡◌}
use lib.ListN.{length}
use lib.Seq.{sets}
use Rattle.places.specs.Places.{joined_below}
use Rattle.sheet.specs.Layout.{record_at, record_bytes}
use Rattle.sheet.proofs.layout.put_records.Given as goal

abbrev pub invariant-loop-place : goal.invariant-loop-place
invariant-loop-place l = (l.place ≤ l.count) × (length l.out ≡ length l.initial.out) × (l.out ≡ sets l.initial.out l.start (joined_below (λ at_place. record_bytes (record_at l.records at_place)) l.place))
