-- `analysis::common::columns::columns_of` meets its contract: before each turn the places below are filled. Assumes nothing.
use Prim.Native.Nat.{ℕ, ◌≤◌}
use mathlib.Core.Path.{◌≡◌}
use mathlib.Core.List.{List}
use lib.ListN.{replicate}
use Rattle.places.specs.Places.{filled_below}
use Rattle.sheet.specs.declared.Record.{Record}
use Rattle.sheet.specs.Layout.{record_at}
use Rattle.analysis.proofs.common.columns.columns_of.Given as goal

-- the priority and the backup of the record at each place
abbrev pub priority_of : List Record → ℕ → ℕ
priority_of records k = (record_at records k).priority

abbrev pub backup_of : List Record → ℕ → ℕ
backup_of records k = (record_at records k).backup

abbrev pub invariant-loop-place : goal.invariant-loop-place
invariant-loop-place l =
    (l.place ≤ l.count) × (l.priorities ≡ filled_below (priority_of l.records) l.place (replicate 8 0)) × (l.backups ≡ filled_below (backup_of l.records) l.place (replicate 8 0))
