-- The machine: as a sheet's table sets it up, and after one tick. It holds no absolute time.
use Rattle.std.specs.Prelude.{◌≡◌, ℕ, zero, suc, ◌+◌, cond, List, replicate, ◌==◌}
use Rattle.places.specs.Places.{filled_below}
use Rattle.sheet.specs.declared.Record.{Record}
use Rattle.sheet.specs.declared.Table.{Table}
use Rattle.sheet.specs.Layout.{no_record, record_at}
use Rattle.replay.specs.declared.Cell.{Cell}
use Rattle.replay.specs.declared.Tally.{Tally}
use Rattle.replay.specs.declared.Counts.{Counts}
use Rattle.replay.specs.declared.Machine.{Machine}
use Rattle.replay.specs.Ticks.Tick.{is_marked}
use Rattle.replay.specs.Ticks.Cells.{no_cell, cell_at, eight}
use Rattle.replay.specs.Ticks.Runner.{runner}
use Rattle.replay.specs.Ticks.Ready.{ready_priorities}
use Rattle.replay.specs.Ticks.Step.{entered, ran, faulted, ended, gap_after}
use Rattle.replay.specs.Ticks.Counts.{gains, no_tally, added, unfinished_in, counts_from}

-- the record of a priority among the first n, or one of zeros
unfoldable pub with_priority : (ℕ → Record) → ℕ → ℕ → Record
with_priority at priority zero = no_record
with_priority at priority (suc n) = cond ((at n).priority == priority) (at n) (with_priority at priority n)

-- the records by priority: slot k has the record of priority k + 1
unfoldable pub by_priority : List Record → List Record
by_priority records = filled_below (λ slot. with_priority (record_at records) (slot + 1) 8) 8 (replicate 8 no_record)

-- the machine of a table before the first tick: no job, and every first release and fault is legal
unfoldable pub machine_of : Table → Machine
machine_of t = record { count = t.count; interval = t.interval; tasks = by_priority t.records; cells = replicate 8 no_cell; ready = 0; gap = 0; tally = no_tally }

-- a machine of zeros
abbrev pub no_machine : Machine
no_machine = record { count = 0; interval = 0; tasks = replicate 8 no_record; cells = replicate 8 no_cell; ready = 0; gap = 0; tally = no_tally }

-- "The set of ready levels is kept": a machine's ready priorities are those of its jobs
abbrev pub IsTied : Machine → Type 0
IsTied m = m.ready ≡ ready_priorities m.tasks m.cells

-- a machine with the ready priorities of its own jobs, whichever it was handed in with
unfoldable pub tied : Machine → Machine
tied m = record { count = m.count; interval = m.interval; tasks = m.tasks; cells = m.cells; ready = ready_priorities m.tasks m.cells; gap = m.gap; tally = m.tally }

-- a machine with other cells and their ready priorities, other ticks until the next legal fault and another tally: an inner device of the loop over a log
unfoldable pub machine_with : Machine → List Cell → ℕ → Tally → Machine
machine_with m cells gap tally = record { count = m.count; interval = m.interval; tasks = m.tasks; cells = cells; ready = ready_priorities m.tasks cells; gap = gap; tally = tally }

-- "Each tick: releases come in"
unfoldable pub cells_entered : Machine → ℕ → List Cell
cells_entered m releases = eight (entered (record_at m.tasks) releases (cell_at m.cells))

-- the priority of the task that runs in the tick, 0 for idling
unfoldable pub runner_of : Machine → ℕ → ℕ
runner_of m releases = runner (record_at m.tasks) (cell_at (cells_entered m releases))

-- "the ready job of the highest present level runs one tick, then a fault, if marked, throws that job's work away"
unfoldable pub cells_ran : Machine → ℕ → ℕ → List Cell
cells_ran m releases faults = eight (faulted (record_at m.tasks) (is_marked faults) (runner_of m releases) (ran (runner_of m releases) (cell_at (cells_entered m releases))))

-- the tick ends
abbrev pub cells_ended : Machine → ℕ → ℕ → List Cell
cells_ended m releases faults = eight (λ slot. ended (cell_at (cells_ran m releases faults) slot))

-- what the tick adds to the counts
unfoldable pub tick_gains : Machine → ℕ → ℕ → Tally
tick_gains m releases faults = gains releases (runner_of m releases) (cells_entered m releases) (cells_ran m releases faults)

-- the machine after one tick
unfoldable pub tick : Machine → ℕ → ℕ → Machine
tick m releases faults =
    record {
      count = m.count;
      interval = m.interval;
      tasks = m.tasks;
      cells = cells_ended m releases faults;
      ready = ready_priorities m.tasks (cells_ended m releases faults);
      gap = gap_after m.interval (is_marked faults) m.gap;
      tally = added m.tally (tick_gains m releases faults);
    }

-- the seven counts of a machine
unfoldable pub counts_of : Machine → Counts
counts_of m = counts_from m.tally (unfinished_in m.cells)
