-- The release rule: which places are protected, and when a response grows.
use Rattle.std.specs.Prelude.{ℕ, ◌/◌, ◌%◌, ◌^◌, Bool, true, false, ◌&&◌, eqb, ltb, leb}
use Rattle.places.specs.Places.{some_below}
use Rattle.sheet.specs.declared.Table.{Table}
use Rattle.sheet.specs.Layout.{record_at}
use Rattle.analysis.specs.declared.Outcome.{Outcome}
use Rattle.analysis.specs.declared.Outcome.TheVariants.{OnTime, Late}
use Rattle.analysis.specs.Published.Response.{response_time}
use Rattle.analysis.specs.Common.Entries.{outcome_of, own_tasks}

-- "eight bits of protected places, place 0 lowest"
unfoldable pub is_protected : ℕ → ℕ → Bool
is_protected protected place = eqb (protected / 2 ^ place % 2) 1

-- "a protected place outside" the count
unfoldable pub some_outside : ℕ → ℕ → Bool
some_outside protected count = some_below (λ place. leb count place && is_protected protected place) 8

-- whether a response grows: "A protected task late in use counts as longer than any time", and so does a late one of the candidate
unfoldable pub grows : Outcome → Outcome → Bool
grows (OnTime before) (OnTime after) = ltb before after
grows (OnTime before) Late = true
grows Late after = false

-- the outcome of the record at a place of a table, under its own interval, share and fault priorities
unfoldable pub outcome_at : Table → ℕ → Outcome
outcome_at t place = outcome_of (record_at t.records place).deadline (response_time (own_tasks t) place)

-- "Tasks are matched by place"
unfoldable pub grows_at : Table → Table → ℕ → Bool
grows_at old new place = grows (outcome_at old place) (outcome_at new place)

-- whether a "protected task's response grows"
unfoldable pub some_grows : Table → Table → ℕ → Bool
some_grows old new protected = some_below (λ place. is_protected protected place && grows_at old new place) old.count
