-- `mend::listing::changes_of` meets its contract: before each turn the cut and the records below the place are listed. Assumes nothing.
use Prim.Native.Nat.{◌+◌, ◌≤◌}
use mathlib.Core.Path.{◌≡◌}
use mathlib.Core.List.{◌++◌}
use Rattle.places.specs.Places.{joined_below}
use Rattle.sheet.specs.Layout.{record_at}
use Rattle.mend.specs.declared.Field.TheVariants.{Length}
use Rattle.mend.specs.Changes.{listed, record_changes, held}
use Rattle.mend.proofs.listing.changes_of.Given as goal

abbrev pub invariant-loop-place : goal.invariant-loop-place
invariant-loop-place l = (l.place ≤ l.place-end) × (l.changes ≡ held (listed (record { place = 0; field = Length; old = l.old; new = l.new }) ++ joined_below (λ k. record_changes (k + 1) (record_at l.records k)) l.place))
