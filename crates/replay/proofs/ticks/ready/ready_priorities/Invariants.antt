-- `replay::ticks::ready::ready_priorities` meets its contract: before each turn the priorities of the slots below are in the set. Assumes nothing.
use Rattle.std.proofs.Common.{◌≡◌, ℕ, ◌+◌, ◌≤◌, Bool, List}
use Rattle.places.specs.Places.{some_below}
use Rattle.sheet.specs.declared.Record.{Record}
use Rattle.sheet.specs.Layout.{record_at}
use Rattle.replay.specs.declared.Cell.{Cell}
use Rattle.replay.specs.Ticks.Cells.{cell_at}
use Rattle.replay.specs.Ticks.Runner.{is_at}
use Rattle.replay.specs.Ticks.Ready.{bits_of}
use Rattle.replay.proofs.ticks.ready.ready_priorities.Given as goal

-- which priorities are those of ready jobs at the slots below
abbrev pub present : List Record → List Cell → ℕ → ℕ → Bool
present tasks cells slot below = some_below (is_at (record_at tasks) (cell_at cells) (below + 1)) slot

abbrev pub invariant-loop-slot : goal.invariant-loop-slot
invariant-loop-slot l = (l.slot ≤ 8) × (l.priorities ≡ bits_of (present l.tasks l.cells l.slot) 8)
