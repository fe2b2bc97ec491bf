-- The started jobs: "A start table gives a control period and up to eight jobs with offset, length and a set of eight resources"; "the table repeats every period". Times are plain numbers and count on past the period.
use Rattle.std.specs.Prelude.{ℕ, ◌+◌, ◌%◌, Bool, ◌&&◌, List, eqb, leb, ltb, get_or}
use Rattle.places.specs.Places.{some_below}
use Rattle.locks.specs.declared.Job.{Job}
use Rattle.locks.specs.declared.Starts.{Starts}
use Rattle.locks.specs.Bits.{has_bit}

-- a job of zeros
abbrev pub no_job : Job
no_job = record { offset = 0; length = 0; uses = 0 }

-- the job at a place
unfoldable pub job_at : List Job → ℕ → Job
job_at jobs place = get_or jobs place no_job

-- whether the test holds of some job below the count
unfoldable pub some_job : List Job → ℕ → (Job → Bool) → Bool
some_job jobs count test = some_below (λ place. test (job_at jobs place)) count

-- "from a started job's start up to but not at its end"
unfoldable pub within : ℕ → ℕ → ℕ → Bool
within start length tick = leb start tick && ltb tick (start + length)

-- whether a job runs in the tick at a time
unfoldable pub runs : ℕ → Job → ℕ → Bool
runs period job time = within job.offset job.length (time % period)

-- whether some started job runs in the tick at a time
unfoldable pub busy : Starts → ℕ → Bool
busy s time = some_job s.jobs s.count (λ job. runs s.period job time)

-- "A resource used by a started job is critical"
unfoldable pub is_critical : Starts → ℕ → Bool
is_critical s resource = some_job s.jobs s.count (λ job. has_bit job.uses resource)

-- whether a job that uses the resource starts at a time
unfoldable pub starts_at : Starts → ℕ → ℕ → Bool
starts_at s resource time = some_job s.jobs s.count (λ job. has_bit job.uses resource && eqb (time % s.period) job.offset)
