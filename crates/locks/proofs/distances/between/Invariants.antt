-- `locks::distances::between` meets its contract: before each turn the places below are summed. Assumes nothing.
use Prim.Native.Nat.{ℕ, ◌*◌, ◌≤◌}
use mathlib.Core.Path.{◌≡◌}
use mathlib.Core.Bool.{cond}
use mathlib.Core.List.{List}
use lib.Dec.{ltb}
use Rattle.places.specs.Places.{sum_below}
use Rattle.locks.specs.declared.Job.{Job}
use Rattle.locks.specs.Jobs.{job_at}
use Rattle.locks.specs.Distances.{distance}
use Rattle.locks.proofs.distances.between.Given as goal

-- what is summed
abbrev pub each : ℕ → ℕ → ℕ → List Job → ℕ → ℕ
each limit phase period jobs place = cond (ltb (distance period phase (job_at jobs place).offset) limit) (job_at jobs place).length 0

abbrev pub invariant-loop-place : goal.invariant-loop-place
invariant-loop-place l = (l.place ≤ l.count) × (l.sum ≡ sum_below (each l.limit l.phase l.period l.jobs) l.place) × (l.sum ≤ 4294967296 * l.place)
