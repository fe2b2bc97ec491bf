-- The sheet after the three changes that document 02, request 11, allows: "A mending tool may do three things: cut bytes after the last record, bring a deadline above its period down to the period, and bring a fault priority above the task's own, or zero, to its own." All are made before anything is judged.
use Rattle.std.specs.Prelude.{ℕ, Bool, cond, ◌&&◌, List, ◌++◌, eqb, ltb, leb, length, take}
use Rattle.places.specs.Places.{joined_below}
use Rattle.sheet.specs.declared.Record.{Record}
use Rattle.sheet.specs.Layout.{count_of, start_of, said_size, sheet_record, record_bytes}
use Rattle.sheet.specs.Rules.{outside, size_refusal}

-- "bring a deadline above its period down to the period"
unfoldable pub mended_deadline : ℕ → ℕ → ℕ
mended_deadline deadline period = cond (ltb period deadline) period deadline

-- "bring a fault priority above the task's own, or zero, to its own"
unfoldable pub mended_fault : ℕ → ℕ → ℕ
mended_fault fault priority = cond (outside fault priority) priority fault

-- a record with both; "It never touches costs, periods, priorities or E."
unfoldable pub mended_record : Record → Record
mended_record r =
    record {
      cost = r.cost;
      backup = r.backup;
      deadline = mended_deadline r.deadline r.period;
      period = r.period;
      priority = r.priority;
      fault_priority = mended_fault r.fault_priority r.priority;
    }

-- whether the sheet's header says how long the sheet is, and that many bytes are there: else 1, 2, 3 or 4 follows, whatever is changed
unfoldable pub is_complete : List ℕ → Bool
is_complete sheet = eqb (size_refusal sheet) 0 && leb (said_size sheet) (length sheet)

-- a sheet's header with other records after it, as many as it counts
unfoldable pub sheet_with : List ℕ → (ℕ → Record) → List ℕ
sheet_with sheet at = take (start_of sheet) sheet ++ joined_below (λ place. record_bytes (at place)) (count_of sheet)

-- the sheet after the changes: its header, its records mended, and nothing "after the last record"; a sheet that is not complete is left as it is
unfoldable pub mended : List ℕ → List ℕ
mended sheet = cond (is_complete sheet) (sheet_with sheet (λ place. mended_record (sheet_record sheet place))) sheet
