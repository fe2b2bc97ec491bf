-- `cores::tables::table_with` meets its contract: before each turn the records below that are of the core stand at the start. Assumes nothing.
use Prim.Native.Nat.{ℕ, suc, ◌≤◌}
use mathlib.Core.Path.{◌≡◌}
use mathlib.Core.Bool.{Bool}
use mathlib.Core.List.{List}
use lib.ListN.{length, get_or}
use Rattle.sheet.specs.declared.Record.{Record}
use Rattle.sheet.specs.Layout.{record_at, no_record}
use Rattle.cores.specs.Renumbered.{priority_among, renumbered}
use Rattle.cores.specs.FirstFit.{joins}
use Rattle.cores.proofs.Picking.{Gathered}
use Rattle.cores.proofs.tables.table_with.Given as goal

-- which records are of the core
abbrev pub meant : List ℕ → ℕ → ℕ → ℕ → Bool
meant cores place core = joins (λ k. get_or cores k 0) place core

-- the record at a place with its priority on the core
abbrev pub value : List Record → List ℕ → ℕ → ℕ → ℕ → Record
value records cores place core k = renumbered (record_at records k) (priority_among (record_at records) (meant cores place core) (suc place) (record_at records k).priority)

abbrev pub invariant-loop-other : goal.invariant-loop-other
invariant-loop-other l =
    (l.other ≤ suc l.place) × (length l.records ≡ 8) × (l.count ≤ l.other) × Gathered (value l.table.records l.cores l.place l.core) no_record (meant l.cores l.place l.core) l.records l.count l.other
