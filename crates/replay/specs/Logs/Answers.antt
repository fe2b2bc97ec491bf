-- What each public call answers, refusals included.
use Rattle.std.specs.Prelude.{ℕ, ◌/◌, cond, List, length, ◌==◌}
use Rattle.places.specs.Refusals.{or_else}
use Rattle.sheet.specs.Layout.{table_of}
use Rattle.sheet.specs.Rules.{whole_sheet_refusal}
use Rattle.replay.specs.declared.Machine.{Machine}
use Rattle.replay.specs.declared.Run.{Run}
use Rattle.replay.specs.declared.Replayed.{Replayed}
use Rattle.replay.specs.declared.Checked.{Checked}
use Rattle.replay.specs.declared.Checked.TheVariants.{Refused, Accepted, Differs}
use Rattle.replay.specs.Ticks.Counts.{no_counts}
use Rattle.replay.specs.Ticks.Machines.{machine_of, no_machine, tied, counts_of}
use Rattle.replay.specs.Logs.Over.{ran_over}
use Rattle.replay.specs.Logs.Rules.{log_refusal}
use Rattle.replay.specs.Logs.Shown.{matching, supplied_refusal}

-- `Machine::start`: the sheet's refusal, its own or 19, beside its machine, a machine of zeros where it is refused
unfoldable pub start_answer : List ℕ → Run
start_answer sheet = record { refusal = whole_sheet_refusal sheet; machine = cond (whole_sheet_refusal sheet == 0) (machine_of (table_of sheet)) no_machine }

-- `Machine::go_on`: the refusal of the part beside the machine after it, its ready priorities those of its jobs; a machine of zeros where it is refused
unfoldable pub go_on_answer : Machine → List ℕ → Run
go_on_answer m part = record { refusal = log_refusal m part; machine = cond (log_refusal m part == 0) (ran_over (tied m) part) no_machine }

-- the refusal of a replay: the sheet's, then the log's
unfoldable pub replay_refusal : List ℕ → List ℕ → ℕ
replay_refusal sheet log = or_else (whole_sheet_refusal sheet) (log_refusal (machine_of (table_of sheet)) log)

-- `replay`: the refusal beside the seven counts, zeros where it is refused
unfoldable pub replay_answer : List ℕ → List ℕ → Replayed
replay_answer sheet log =
    record {
      refusal = replay_refusal sheet log;
      counts = cond (replay_refusal sheet log == 0) (counts_of (ran_over (machine_of (table_of sheet)) log)) no_counts;
    }

-- a refusal's number; or, of so many ticks, "accept a record exactly if every tick shows what Ask 1's rules say; otherwise give the first tick, from 0, that differs", which is the number of those before it
unfoldable pub compared : ℕ → ℕ → ℕ → Checked
compared refusal ticks same = cond (refusal == 0) (cond (same == ticks) Accepted (Differs same)) (Refused refusal)

-- the refusal of a record, "over the whole record first": the sheet's, its own or 19, then the record's
unfoldable pub check_refusal : List ℕ → List ℕ → ℕ
check_refusal sheet supplied = or_else (whole_sheet_refusal sheet) (supplied_refusal (machine_of (table_of sheet)) supplied)

-- `check`: refused, accepted, or the first tick that differs
unfoldable pub check_answer : List ℕ → List ℕ → Checked
check_answer sheet supplied = compared (check_refusal sheet supplied) (length supplied / 3) (matching (machine_of (table_of sheet)) supplied)
