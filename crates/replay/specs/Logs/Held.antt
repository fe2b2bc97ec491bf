-- What is kept while the ticks of a log or of a record are gone over, the machine's cells apart: an inner device of that loop. No public promise cites it.
use Rattle.std.specs.Prelude.{◌≡◌, ◌≤◌, false, List}
use Rattle.sheet.specs.Layout.{record_at}
use Rattle.replay.specs.declared.Cell.{Cell}
use Rattle.replay.specs.declared.Following.{Following}
use Rattle.replay.specs.declared.logs.going.Headway.{Headway}
use Rattle.replay.specs.Ticks.Cells.{cell_at}
use Rattle.replay.specs.Ticks.Runner.{runner}
use Rattle.replay.specs.Ticks.Machines.{machine_with}

-- what is kept once the ticks have come to these cells and this headway; no byte is held
unfoldable pub held_in : Following → List Cell → Headway → Following
held_in f cells headway =
    record {
      is_record = f.is_record;
      start = f.start;
      broken = headway.broken;
      machine = machine_with f.machine cells headway.gap headway.tally;
      same = headway.same;
      differs = headway.differs;
      holds = 0;
      releases = 0;
      faults = 0;
    }

-- the task that ran last runs on, unless a job has come or gone
pub record KeepsRunner (f : Following) (cells : List Cell) (headway : Headway) : Type 0 where
  pub small : headway.priority ≤ 8
  pub kept : headway.has_changed ≡ false → headway.priority ≡ runner (record_at f.machine.tasks) (cell_at cells)
