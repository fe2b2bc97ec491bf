-- The slot that runs and the others, through the work of a tick and its fault; and the priority that a backup runs at. Assumes nothing.
use Rattle.std.proofs.Common.{◌≡◌, ℕ, ◌+◌, Bool, true, false, cond, ◌&&◌, eqb, refl}
use mathlib.Core.Bool.{and-false, and-true}
use Rattle.sheet.specs.declared.Record.{Record}
use Rattle.replay.specs.declared.Cell.{Cell}
use Rattle.replay.specs.Ticks.Cells.{is_ready}
use Rattle.replay.specs.Ticks.Runner.{priority_of}
use Rattle.replay.specs.Ticks.Step.{runs, worked, ran, struck, faulted}

module _ (tasks : ℕ → Record) (is_struck : Bool) (runner : ℕ) (cells : ℕ → Cell) (slot : ℕ) where
  -- a slot that does not run is as it was
  pub others-kept : runs runner slot ≡ false → faulted tasks is_struck runner (ran runner cells) slot ≡ cells slot
  unfolding faulted ran
  others-kept e = simp (e, and-false is_struck)

  -- the one that runs has one tick less to do, or its whole backup
  pub runner-changed : runs runner slot ≡ true → faulted tasks is_struck runner (ran runner cells) slot ≡ cond is_struck (struck (tasks slot) (worked (cells slot))) (worked (cells slot))
  unfolding faulted ran
  runner-changed e = simp (e, and-true is_struck)

-- a backup runs at the fault priority
pub backup-priority : (task : Record) (slot : ℕ) (cell : Cell) (priority : ℕ)
    → (cell.is_backup && (is_ready cell && eqb task.fault_priority priority)) ≡ (cell.is_backup && (is_ready cell && eqb (priority_of task slot cell) priority))
unfolding priority_of
backup-priority task slot cell priority = go cell.is_backup
  where
    go : (b : Bool) → (b && (is_ready cell && eqb task.fault_priority priority)) ≡ (b && (is_ready cell && eqb (cond b task.fault_priority (slot + 1)) priority))
    go true = refl
    go false = refl
