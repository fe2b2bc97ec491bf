-- What calls tell, in numbers: a refusal, or 0, and beside it what is asked for. And what of it the answers of the code hold.
use Rattle.std.specs.Prelude.{ℕ, Bool, cond, List, eqb, Option, Some, None, Result, Ok, Err}
use Rattle.places.specs.declared.refusal.Refusal.{Refusal}
use Rattle.places.specs.Answered.{numbered}
use Rattle.analysis.specs.declared.Entry.{Entry}
use Rattle.analysis.specs.declared.Assessment as times
use Rattle.analysis.specs.declared.Bounds as limits

-- the refusal, or 0 beside the record's entry
pub record Timed : Type 0 where
  pub refusal : ℕ
  pub entry : Entry

-- the refusal, or 0 beside an entry for each record and whether no task is late
pub record Assessment : Type 0 where
  pub refusal : ℕ
  pub entries : List Entry
  pub passes : Bool

-- the entries and the verdict of it alone
abbrev pub times_told : Assessment → times.Assessment
times_told a = record { entries = a.entries; passes = a.passes }

-- the refusal, or 0 beside the time, 0 where the equation has none
pub record Solution : Type 0 where
  pub refusal : ℕ
  pub time : ℕ

-- a number, 0 for none
unfoldable pub some_of : ℕ → Option ℕ
some_of n = cond (eqb n 0) None (Some n)

-- a refusal's number, the interval, or "none"
pub data Interval : Type 0 where
  Refused : ℕ → Interval
  Least : ℕ → Interval
  Nothing : Interval

unfoldable pub least_told : Interval → Result (Option ℕ) Refusal
least_told (Refused refusal) = Err (numbered refusal)
least_told (Least interval) = Ok (Some interval)
least_told Nothing = Ok None

-- the refusal, or 0 beside the count, 0 where no choice meets the rule, the records' priorities and backups, and the limits of each
pub record Bounds : Type 0 where
  pub refusal : ℕ
  pub count : ℕ
  pub priorities : List ℕ
  pub backups : List ℕ
  pub limits : List ℕ

-- the bounds of it alone, or none where no choice meets the rule
unfoldable pub limits_told : Bounds → Option limits.Bounds
limits_told b = cond (eqb b.count 0) None (Some (record { count = b.count; priorities = b.priorities; backups = b.backups; limits = b.limits }))

-- the refusal, or 0 beside yes or no
pub record Verdict : Type 0 where
  pub refusal : ℕ
  pub yes : Bool
