-- "the free time before the next start that uses it. Free time leaves out the started jobs in between": tick by tick.
use Rattle.std.specs.Prelude.{ℕ, ◌+◌, ◌-◌, Bool, not}
use Rattle.places.specs.Places.{count_below}
use Rattle.places.specs.Search.{first_from}
use Rattle.locks.specs.declared.Starts.{Starts}
use Rattle.locks.specs.Jobs.{busy, starts_at}

-- "the next start that uses it": the first after the time, looked for over one period, since the table repeats; 0 where none uses it
unfoldable pub next_start : Starts → ℕ → ℕ → ℕ
next_start s resource time = first_from (starts_at s resource) (time + 1) s.period

-- a tick is free in which no started job runs
unfoldable pub is_free : Starts → ℕ → Bool
is_free s time = not (busy s time)

-- the free ticks from a time up to another
unfoldable pub free_ticks : Starts → ℕ → ℕ → ℕ
free_ticks s start end = count_below (λ tick. is_free s (start + tick)) (end - start)

-- the free time that a request at a time has
unfoldable pub free_time : Starts → ℕ → ℕ → ℕ
free_time s resource time = free_ticks s time (next_start s resource time)
