-- `replay::ticks::runner::top_backup` meets its contract: before each turn the highest of the slots below is known. Assumes nothing.
use Rattle.std.proofs.Common.{◌≡◌, ℕ, ◌≤◌, Bool, ◌&&◌, List}
use Rattle.places.specs.Places.{highest_below}
use Rattle.sheet.specs.declared.Record.{Record}
use Rattle.sheet.specs.Layout.{record_at}
use Rattle.replay.specs.declared.Cell.{Cell}
use Rattle.replay.specs.Ticks.Cells.{cell_at}
use Rattle.replay.specs.Ticks.Runner.{is_at}
use Rattle.replay.proofs.ticks.runner.top_backup.Given as goal

-- a ready backup of the priority
abbrev pub each : List Record → List Cell → ℕ → ℕ → Bool
each tasks cells priority k = (cell_at cells k).is_backup && is_at (record_at tasks) (cell_at cells) priority k

-- the highest of those below a slot
abbrev pub up_to : List Record → List Cell → ℕ → ℕ → ℕ
up_to tasks cells priority = highest_below (each tasks cells priority)

abbrev pub invariant-loop-slot : goal.invariant-loop-slot
invariant-loop-slot l = (l.slot ≤ 8) × (l.highest ≡ up_to l.tasks l.cells l.priority l.slot)
