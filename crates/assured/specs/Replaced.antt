-- A table whose own fault priorities are replaced by a choice.
use Rattle.std.specs.Prelude.{ℕ, List, get_or}
use Rattle.sheet.specs.declared.Record.{Record}
use Rattle.sheet.specs.declared.Table.{Table}
use Rattle.sheet.specs.Layout.{record_at, room}

-- a record with another fault priority
abbrev pub with_fault : Record → ℕ → Record
with_fault r fault = record { cost = r.cost; backup = r.backup; deadline = r.deadline; period = r.period; priority = r.priority; fault_priority = fault }

-- "the sheet's own q replaced by it", a choice
unfoldable pub replaced : Table → List ℕ → Table
replaced t choice =
    record {
      count = t.count;
      interval = t.interval;
      round = t.round;
      share = t.share;
      records = room (λ k. with_fault (record_at t.records k) (get_or choice k 0)) t.count;
    }
