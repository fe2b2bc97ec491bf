-- The assured time of record i, and which choices are assured.
use Rattle.std.specs.Prelude.{ℕ, Bool, not}
use Rattle.places.specs.Places.{some_below}
use Rattle.analysis.specs.Common.Tasks.{Tasks}
use Rattle.analysis.specs.Common.Search.{least_within}
use Rattle.analysis.specs.Common.Entries.{is_late}
use Rattle.analysis.specs.Assured.Equation.{assured_equation}

-- "the least L", within a limit; 0 where there is none
unfoldable pub assured_within : ℕ → Tasks → ℕ → ℕ
assured_within limit s i = least_within (assured_equation s i) 1 limit

-- the assured time: "the least L" of those that are searched for, up to 65,535
unfoldable pub assured_time : Tasks → ℕ → ℕ
assured_time s i = assured_within 65535 s i

-- whether record i has no "assured time of a task under a choice, within its deadline"
abbrev pub unassured : Tasks → ℕ → Bool
unassured s i = is_late (s.at i).deadline (assured_time s i)

-- "a choice is assured if every task has one"
unfoldable pub assured : Tasks → Bool
assured s = not (some_below (unassured s) s.count)
