-- What the equations read: the records, the fault interval E, the supplier's round Q with our share S of it, and a fault priority for each record, which a choice beside the table gives.
use Rattle.std.specs.Prelude.{ℕ, cond, List, ltb, get_or, replicate}
use Rattle.places.specs.Places.{filled_below}
use Rattle.sheet.specs.declared.Record.{Record}
use Rattle.sheet.specs.declared.Table.{Table}
use Rattle.sheet.specs.Layout.{record_at}

pub record Tasks : Type 0 where
  pub count : ℕ
  pub at : ℕ → Record
  pub interval : ℕ
  pub round : ℕ
  pub share : ℕ
  pub fault : ℕ → ℕ

-- a table's tasks under a fault interval and a choice of fault priorities
abbrev pub tasks_of : Table → ℕ → List ℕ → Tasks
tasks_of t interval choice = record { count = t.count; at = record_at t.records; interval = interval; round = t.round; share = t.share; fault = λ place. get_or choice place 0 }

-- a record's own fault priority, 0 past the count
unfoldable pub fault_at : Table → ℕ → ℕ
fault_at t place = cond (ltb place t.count) (record_at t.records place).fault_priority 0

-- the sheet's own fault priorities, as a choice
unfoldable pub own_choice : Table → List ℕ
own_choice t = filled_below (fault_at t) 8 (replicate 8 0)
