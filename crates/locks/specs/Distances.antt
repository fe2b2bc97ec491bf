-- The free time as the code computes it: from the distance of each job's next start. An inner device, tied to the ticks by laws.
use Rattle.std.specs.Prelude.{ℕ, ◌+◌, ◌-◌, cond, List, leb, ltb}
use Rattle.places.specs.Places.{sum_below, least_below}
use Rattle.locks.specs.declared.Job.{Job}
use Rattle.locks.specs.Bits.{has_bit}
use Rattle.locks.specs.Jobs.{job_at}

-- the ticks from a phase of the period until a job of the offset starts, in this period or the next
unfoldable pub distance : ℕ → ℕ → ℕ → ℕ
distance period phase offset = cond (leb phase offset) (offset - phase) (period - phase + offset)

-- the distance of the next start that uses the resource; the period where there is none
unfoldable pub nearest : ℕ → ℕ → ℕ → List Job → ℕ → ℕ
nearest period phase resource jobs count =
    least_below period (λ place. has_bit (job_at jobs place).uses resource) (λ place. distance period phase (job_at jobs place).offset) count

-- the lengths together of the jobs whose next start is nearer than the limit
unfoldable pub between : ℕ → ℕ → ℕ → List Job → ℕ → ℕ
between period phase limit jobs count = sum_below (λ place. cond (ltb (distance period phase (job_at jobs place).offset) limit) (job_at jobs place).length 0) count
