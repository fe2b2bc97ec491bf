-- The four phases of a tick, in the request's order, each over what stands at every slot.
use Rattle.std.specs.Prelude.{ℕ, ◌+◌, ◌-◌, Bool, true, false, cond, ◌&&◌, ◌==◌, nat_le}
use Rattle.sheet.specs.declared.Record.{Record}
use Rattle.replay.specs.declared.Cell.{Cell}
use Rattle.replay.specs.Ticks.Tick.{is_released}
use Rattle.replay.specs.Ticks.Cells.{is_ready}

-- the cell of a task that is released: a first attempt with its whole cost left, its deadline and its period ahead
abbrev pub released : Record → Cell
released task = record { is_backup = false; left = task.cost; rest = task.deadline; wait = task.period }

-- "releases come in"
unfoldable pub entered : (ℕ → Record) → ℕ → (ℕ → Cell) → ℕ → Cell
entered tasks releases cells slot = cond (is_released releases slot) (released (tasks slot)) (cells slot)

-- the task at the slot is the one that runs, given by its priority
unfoldable pub runs : ℕ → ℕ → Bool
runs runner slot = slot + 1 == runner

-- a job with one tick less to do
abbrev pub worked : Cell → Cell
worked cell = record { is_backup = cell.is_backup; left = cell.left - 1; rest = cell.rest; wait = cell.wait }

-- "the ready job of the highest present level runs one tick"
unfoldable pub ran : ℕ → (ℕ → Cell) → ℕ → Cell
ran runner cells slot = cond (runs runner slot) (worked (cells slot)) (cells slot)

-- a job whose work is thrown away, "even if complete", with its full backup to do; a backup is at its task's fault priority
abbrev pub struck : Record → Cell → Cell
struck task cell = record { is_backup = true; left = task.backup; rest = cell.rest; wait = cell.wait }

-- "then a fault, if marked, throws that job's work away, even if complete, and puts its full backup at its fault priority"; "A fault in an idle tick does nothing. A struck backup starts again."
unfoldable pub faulted : (ℕ → Record) → Bool → ℕ → (ℕ → Cell) → ℕ → Cell
faulted tasks is_struck runner cells slot = cond (is_struck && runs runner slot) (struck (tasks slot) (cells slot)) (cells slot)

-- the tick that ends is the last of the job's D: "its D-th tick, the release tick being the first"
unfoldable pub is_last : Cell → Bool
is_last cell = nat_le cell.rest 1

-- "A job still unfinished when its D-th tick .. ends is dropped and counted missed"
unfoldable pub is_missed : Cell → Bool
is_missed cell = is_last cell && is_ready cell

-- the tick ends: a missed job is dropped, and deadline and next legal release are one tick nearer
unfoldable pub ended : Cell → Cell
ended cell = record { is_backup = cell.is_backup; left = cond (is_last cell) 0 cell.left; rest = cell.rest - 1; wait = cell.wait - 1 }

-- the ticks until the next legal fault, at the end of a tick: E from a marked one on, whatever it struck
unfoldable pub gap_after : ℕ → Bool → ℕ → ℕ
gap_after interval is_marked gap = cond is_marked interval gap - 1
