-- What calls tell, in numbers: a refusal, or 0, and beside it what is asked for. And what of it the answers of the code hold.
use Rattle.std.specs.Prelude.{ℕ, Bool, List}
use Rattle.assured.specs.declared.Entry.{Entry}
use Rattle.assured.specs.declared.Times as times

-- the refusal, or 0 beside the record's entry
pub record Timed : Type 0 where
  pub refusal : ℕ
  pub entry : Entry

-- the refusal, or 0 beside an entry for each record and whether each has an assured time
pub record Times : Type 0 where
  pub refusal : ℕ
  pub entries : List Entry
  pub assured : Bool

-- the entries and the verdict of it alone
abbrev pub times_told : Times → times.Times
times_told t = record { entries = t.entries; assured = t.assured }
