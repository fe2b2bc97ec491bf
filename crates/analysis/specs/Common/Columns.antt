-- The priorities and the backups of a table's records, in record order.
use Rattle.std.specs.Prelude.{ℕ, List, replicate, ◌≡◌}
use Rattle.places.specs.Places.{filled_below}
use Rattle.sheet.specs.declared.Table.{Table}
use Rattle.sheet.specs.Layout.{record_at}
use Rattle.analysis.specs.declared.Columns.{Columns}

-- the priorities of the records in record order, in eight entries, 0 past the count
unfoldable pub priorities_of : Table → List ℕ
priorities_of t = filled_below (λ place. (record_at t.records place).priority) t.count (replicate 8 0)

-- the backups of the records in record order, in eight entries, 0 past the count
unfoldable pub backups_of : Table → List ℕ
backups_of t = filled_below (λ place. (record_at t.records place).backup) t.count (replicate 8 0)

-- columns that hold both
pub record ColumnsOf (t : Table) (columns : Columns) : Type 0 where
  pub priorities : columns.priorities ≡ priorities_of t
  pub backups : columns.backups ≡ backups_of t
