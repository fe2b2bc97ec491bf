-- `mend::records::mended_table` meets its contract: before each turn the records below the place are mended. Assumes nothing.
use Prim.Native.Nat.{◌≤◌}
use mathlib.Core.Path.{◌≡◌}
use Rattle.places.specs.Places.{filled_below}
use Rattle.sheet.specs.Layout.{record_at}
use Rattle.mend.specs.Mended.{mended_record}
use Rattle.mend.proofs.records.mended_table.Given as goal

abbrev pub invariant-loop-place : goal.invariant-loop-place
invariant-loop-place l = (l.place ≤ 8) × (l.records ≡ filled_below (λ k. mended_record (record_at l.typed k)) l.place l.typed)
