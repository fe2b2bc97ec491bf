-- The lowest task, and whether it is late.
use Rattle.std.specs.Prelude.{ℕ, ◌<◌, ◌≡◌, Bool, ◌&&◌, eqb}
use Rattle.places.specs.Places.{some_below}
use Rattle.sheet.specs.declared.Table.{Table}
use Rattle.sheet.specs.Layout.{record_at}
use Rattle.analysis.specs.Published.Response.{late}
use Rattle.analysis.specs.Common.Entries.{own_tasks}

-- the record at a place is that of document 02's "lowest task", the one with priority 1
abbrev pub Lowest : Table → ℕ → Type 0
Lowest t place = (place < t.count) × ((record_at t.records place).priority ≡ 1)

-- whether it is late under the sheet's own fault priorities
unfoldable pub lowest_late : Table → Bool
lowest_late t = some_below (λ place. eqb (record_at t.records place).priority 1 && late (own_tasks t) place) t.count
