-- A machine before the first tick of a log: it is sound, and for every task whose equation has a value within its deadline a window opens. Assumes nothing.
use Prim.Native.Nat.{ℕ, ◌≤◌, ◌<◌}
use mathlib.Core.Path.{◌≡◌, refl, ap, ◌∙◌}
use mathlib.Core.Bool.{Bool, true, false, cond}
use mathlib.Core.List.{List}
use native.Mathlib.Omega.{arith}
use Rattle.places.proofs.Summed.{sum-none}
use Rattle.sheet.specs.Layout.{record_at, table_of}
use Rattle.sheet.specs.Rules.{sheet_refusal}
use Rattle.sheet.proofs.Cases.{good-table}
use Rattle.sheet.proofs.Demands.{table-good}
use Rattle.analysis.specs.Common.Entries.{own_tasks}
use Rattle.analysis.specs.Assured.Equation.{backup_ahead, assured_equation}
use Rattle.replay.specs.declared.Cell.{Cell}
use Rattle.replay.specs.declared.Machine.{Machine}
use Rattle.replay.specs.Ticks.Cells.{no_cell, cell_at}
use Rattle.replay.specs.Ticks.Machines.{machine_of}
use Rattle.replay.proofs.OfTicks.Started.{faults-small, task-good}
use Rattle.replay.proofs.Demands.{started-free}
use Rattle.runs.specs.Ticks.{place_of}
use Rattle.runs.proofs.Counting.{counts}
use Rattle.runs.proofs.Window.{work_at, work}
use Rattle.runs.proofs.Equation.{faults-under, enough-assured}
use Rattle.runs.proofs.Along.{Sound, Open}

-- nothing is left of no job
nothing_left : (b : Bool) → ◌≡◌ {A = ℕ} (cond b 0 0) 0
nothing_left true = refl
nothing_left false = refl

module _ (sheet : List ℕ) (good : sheet_refusal sheet ≡ 0) where
  abbrev start : Machine
  start = machine_of (table_of sheet)

  pub free : (place : ℕ) → place < 8 → cell_at start.cells place ≡ no_cell
  unfolding machine_of
  free = started-free

  pub sound-start : Sound start
  unfolding machine_of
  sound-start =
      let table = good-table (table_of sheet) (table-good sheet good) in
      record {
        good = record { each = task-good sheet good; priorities = faults-small sheet good };
        lowered = record { some = (let some = table.interval in omega arith); priorities = faults-small sheet good; under = λ place below. faults-under sheet good place };
        waits = λ place below. omega (arith, ap (λ (c : Cell). c.wait) (free place below));
        gap = omega arith;
        empty = λ place past below. ap (λ (c : Cell). c.left) (free place below);
      }

  pub open-start : (j : ℕ) → j < (table_of sheet).count → (L : ℕ) → assured_equation (own_tasks (table_of sheet)) j L ≤ L → L ≤ (record_at (table_of sheet).records j).deadline
      → Open (place_of (table_of sheet) j) (backup_ahead (own_tasks (table_of sheet)) j) L start
  unfolding machine_of work work_at
  open-start j below L fits timely =
      let enough = enough-assured sheet good j below L fits timely in
      let i = place_of (table_of sheet) j in
      let none = sum-none (work_at (record_at start.tasks) start.interval i (cell_at start.cells)) 8
      (λ place low. ap (λ (c : Cell). cond (counts (record_at start.tasks) i place c) c.left 0) (free place low) ∙ nothing_left (counts (record_at start.tasks) i place no_cell)) in
      record {
        enough = enough;
        window = record { ticks = 0; short = enough.some; paid = omega (arith, none); job = λ some. absurd (omega (arith, ap (λ (c : Cell). c.left) (free i enough.here))) };
      }
