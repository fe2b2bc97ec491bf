-- `cores::tables::renumber` meets its contract: before each turn the records below are counted. Assumes nothing.
use Prim.Native.Nat.{ℕ, suc, ◌+◌, ◌≤◌}
use mathlib.Core.Path.{◌≡◌}
use mathlib.Core.Bool.{Bool, ◌&&◌}
use mathlib.Core.List.{List}
use lib.Dec.{ltb}
use lib.ListN.{get_or}
use Rattle.sheet.specs.declared.Record.{Record}
use Rattle.sheet.specs.Layout.{record_at}
use Rattle.cores.specs.Renumbered.{how_many}
use Rattle.cores.specs.FirstFit.{joins}
use Rattle.cores.proofs.tables.renumber.Given as goal

-- whether the record at a place is of the core and has a lower priority
abbrev pub lower : List Record → List ℕ → ℕ → ℕ → ℕ → ℕ → Bool
lower records cores place core priority k = joins (λ at. get_or cores at 0) place core k && ltb (record_at records k).priority priority

abbrev pub invariant-loop-other : goal.invariant-loop-other
invariant-loop-other l = (l.other ≤ suc l.place) × (l.number ≡ 1 + how_many (lower l.table.records l.cores l.place l.core l.priority) l.other)
