-- `sheet::layout::records_of` meets its contract: before each turn the records below the place are filled. Assumes nothing.
use Prim.Native.Nat.{◌≤◌}
use mathlib.Core.Path.{◌≡◌}
use lib.ListN.{replicate}
use Rattle.places.specs.Places.{filled_below}
use Rattle.sheet.specs.Layout.{sheet_record, no_record}
use Rattle.sheet.proofs.layout.records_of.Given as goal

abbrev pub invariant-loop-place : goal.invariant-loop-place
invariant-loop-place l = (l.place ≤ l.count) × (l.records ≡ filled_below (sheet_record l.sheet) l.place (replicate 8 no_record))
