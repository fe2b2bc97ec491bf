-- What the tick at a time of a log shows of the task at a place, that of priority place + 1, where the log starts with a machine.
use Rattle.std.specs.Prelude.{ℕ, ◌-◌, ◌≤◌, ◌<◌, ◌≡◌, Bool, true, false, ◌&&◌, List, eqb}
use Rattle.sheet.specs.declared.Table.{Table}
use Rattle.sheet.specs.Layout.{record_at}
use Rattle.replay.specs.declared.Cell.{Cell}
use Rattle.replay.specs.declared.Machine.{Machine}
use Rattle.replay.specs.Ticks.Tick.{is_released}
use Rattle.replay.specs.Ticks.Cells.{cell_at}
use Rattle.replay.specs.Ticks.Step.{runs, is_missed}
use Rattle.replay.specs.Ticks.Machines.{runner_of, cells_ran}
use Rattle.replay.specs.Logs.Positions.{releases_at, faults_at}
use Rattle.replay.specs.Logs.Totals.{machine_at}

-- its cell in the tick, after the work and the fault
unfoldable pub cell_in : Machine → List ℕ → ℕ → ℕ → Cell
cell_in m log place time = cell_at (cells_ran (machine_at m log time) (releases_at log time) (faults_at log time)) place

-- its job is missed at the end of the tick
unfoldable pub misses_at : Machine → List ℕ → ℕ → ℕ → Bool
misses_at m log place time = is_missed (cell_in m log place time)

-- its job is finished in the tick: it runs, and has nothing left
unfoldable pub finishes_at : Machine → List ℕ → ℕ → ℕ → Bool
finishes_at m log place time = runs (runner_of (machine_at m log time) (releases_at log time)) place && eqb (cell_in m log place time).left 0

-- the job that the task has in the tick was released at the release, the last one of the task up to that time
pub record ReleasedAt (log : List ℕ) (place time release : ℕ) : Type 0 where
  pub early : release ≤ time
  pub marked : is_released (releases_at log release) place ≡ true
  pub last : (later : ℕ) → release < later → later ≤ time → is_released (releases_at log later) place ≡ false

-- the place of a table's record in its machine
abbrev pub place_of : Table → ℕ → ℕ
place_of t k = (record_at t.records k).priority - 1
