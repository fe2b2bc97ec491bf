-- `margins::changing::changed` meets its contract: the room is filled place by place. Assumes nothing.
use Prim.Native.Nat.{ℕ, ◌≤◌}
use mathlib.Core.Path.{◌≡◌}
use lib.ListN.{replicate}
use Rattle.places.specs.Places.{filled_below}
use Rattle.sheet.specs.declared.Record.{Record}
use Rattle.sheet.specs.declared.Table.{Table}
use Rattle.sheet.specs.Layout.{record_at, no_record}
use Rattle.margins.specs.declared.changing.Change.{Change}
use Rattle.margins.specs.Fitted.{fitted_at}
use Rattle.margins.proofs.changing.changed.Given as goal

-- the records as they are to be
abbrev pub filling : Change → ℕ → Table → ℕ → Record
filling change value t place = fitted_at change value place (record_at t.records place)

abbrev pub invariant-loop-place : goal.invariant-loop-place
invariant-loop-place l = (l.place ≤ l.table.count) × (l.records ≡ filled_below (filling l.change l.value l.table) l.place (replicate 8 no_record))
