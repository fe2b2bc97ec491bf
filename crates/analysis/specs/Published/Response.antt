-- The response time of record i within a limit, 0 where the equations have no value there, and what it is for a task to be late and a table to pass.
use Rattle.std.specs.Prelude.{ℕ, max, Bool, cond, not, ◌||◌, eqb}
use Rattle.places.specs.Places.{some_below}
use Rattle.analysis.specs.Common.Tasks.{Tasks}
use Rattle.analysis.specs.Published.Equations.{struck_elsewhere, struck_itself}
use Rattle.analysis.specs.Common.Search.{least_within}
use Rattle.analysis.specs.Common.Entries.{is_late}

-- "Struck elsewhere": "the least L ≥ 1 such that L is at least" its equation
unfoldable pub time_elsewhere : ℕ → Tasks → ℕ → ℕ
time_elsewhere limit s i = least_within (struck_elsewhere s i) 1 limit

-- "Struck itself": "the least L that is at least" its equation
unfoldable pub time_itself : ℕ → Tasks → ℕ → ℕ
time_itself limit s i = least_within (struck_itself s i) 1 limit

-- "The response time is the larger of the two times."
unfoldable pub response_within : ℕ → Tasks → ℕ → ℕ
response_within limit s i = cond (eqb (time_elsewhere limit s i) 0 || eqb (time_itself limit s i) 0) 0 (max (time_elsewhere limit s i) (time_itself limit s i))

-- document 02, request 2: "The response time is searched up to 65,535 instead of D"
unfoldable pub response_time : Tasks → ℕ → ℕ
response_time s i = response_within 65535 s i

-- whether record i is late
abbrev pub late : Tasks → ℕ → Bool
late s i = is_late (s.at i).deadline (response_time s i)

-- "A sheet passes if no task is late."
unfoldable pub passes : Tasks → Bool
passes s = not (some_below (late s) s.count)
