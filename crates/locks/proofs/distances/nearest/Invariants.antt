-- `locks::distances::nearest` meets its contract: before each turn the least of the places below is known. Assumes nothing.
use Prim.Native.Nat.{ℕ, ◌≤◌}
use mathlib.Core.Path.{◌≡◌}
use mathlib.Core.Bool.{Bool}
use mathlib.Core.List.{List}
use Rattle.places.specs.Places.{least_below}
use Rattle.locks.specs.declared.Job.{Job}
use Rattle.locks.specs.Bits.{has_bit}
use Rattle.locks.specs.Jobs.{job_at}
use Rattle.locks.specs.Distances.{distance}
use Rattle.locks.proofs.distances.nearest.Given as goal

-- which jobs count, and how far their next starts are
abbrev pub counts : ℕ → List Job → ℕ → Bool
counts resource jobs place = has_bit (job_at jobs place).uses resource

abbrev pub far : ℕ → ℕ → List Job → ℕ → ℕ
far phase period jobs place = distance period phase (job_at jobs place).offset

abbrev pub invariant-loop-place : goal.invariant-loop-place
invariant-loop-place l = (l.place ≤ l.count) × (l.near ≡ least_below l.period (counts l.resource l.jobs) (far l.phase l.period l.jobs) l.place)
