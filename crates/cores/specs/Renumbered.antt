-- The tasks of one core: some of a sheet's records, in record order, "with priorities ranked from 1 in their old order within the core and each q equal to p". Over any tasks and any test of which of them are meant.
use Rattle.std.specs.Prelude.{ℕ, zero, suc, ◌+◌, Bool, cond, ◌&&◌, List, [], ◌∷◌, ◌++◌, ltb, length, get_or}
use Rattle.places.specs.Places.{sum_below}
use Rattle.sheet.specs.declared.Record.{Record}
use Rattle.analysis.specs.Common.Tasks.{Tasks}

-- the places below n that the test holds at, in order
unfoldable pub picked : (ℕ → Bool) → ℕ → List ℕ
picked test zero = []
picked test (suc n) = let before = picked test n in cond (test n) (before ++ n ∷ []) before

-- how many they are
unfoldable pub how_many : (ℕ → Bool) → ℕ → ℕ
how_many test n = sum_below (λ k. cond (test k) 1 0) n

-- "ranked from 1 in their old order": 1, and one more for each of them with a lower priority
unfoldable pub priority_among : (ℕ → Record) → (ℕ → Bool) → ℕ → ℕ → ℕ
priority_among at test n priority = 1 + how_many (λ k. test k && ltb (at k).priority priority) n

-- a record with a number for its priority, and "each q equal to p"
unfoldable pub renumbered : Record → ℕ → Record
renumbered r number = record { cost = r.cost; backup = r.backup; deadline = r.deadline; period = r.period; priority = number; fault_priority = number }

-- the tasks of a core that has the records at some places, with a number for each priority; "Each core has its own faults spaced by E"
unfoldable pub tasks_at : Tasks → List ℕ → (ℕ → ℕ) → Tasks
tasks_at s places number =
    record {
      count = length places;
      at = λ j. renumbered (s.at (get_or places j 0)) (number (s.at (get_or places j 0)).priority);
      interval = s.interval;
      round = s.round;
      share = s.share;
      fault = λ j. number (s.at (get_or places j 0)).priority;
    }

-- the tasks of the core that has the records below n which the test holds at
unfoldable pub core_tasks : Tasks → (ℕ → Bool) → ℕ → Tasks
core_tasks s test n = tasks_at s (picked test n) (priority_among s.at test n)
