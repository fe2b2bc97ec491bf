-- Which job runs: "the ready job of the highest present level".
use Rattle.std.specs.Prelude.{ℕ, ◌+◌, Bool, cond, ◌&&◌, ◌==◌}
use Rattle.places.specs.Places.{some_below, highest_below}
use Rattle.sheet.specs.declared.Record.{Record}
use Rattle.replay.specs.declared.Cell.{Cell}
use Rattle.replay.specs.Ticks.Cells.{is_ready}

-- the priority that a slot's job runs at: its task's, and for a backup the fault priority
unfoldable pub priority_of : Record → ℕ → Cell → ℕ
priority_of task slot cell = cond cell.is_backup task.fault_priority (slot + 1)

module _ (tasks : ℕ → Record) (cells : ℕ → Cell) where
  -- a ready job of the priority stands at the slot
  unfoldable pub is_at : ℕ → ℕ → Bool
  is_at priority slot = is_ready (cells slot) && priority_of (tasks slot) slot (cells slot) == priority

  -- "the highest present level", or 0
  unfoldable pub top_priority : ℕ
  top_priority = highest_below (λ below. some_below (is_at (below + 1)) 8) 8

  -- "of two backups the task with the higher own priority goes first": the highest own priority of a ready backup at the priority, or 0
  unfoldable pub top_backup : ℕ → ℕ
  top_backup priority = highest_below (λ slot. (cells slot).is_backup && is_at priority slot) 8

  -- "At one level backups go before first attempts": the priority of the task that runs, 0 for idling
  unfoldable pub runner : ℕ
  runner = cond (top_backup top_priority == 0) top_priority (top_backup top_priority)
