-- The refusals row by row, in the order they are tried, as propositions: times of the jobs as plain numbers without a remainder, and an overlap as a tick in which two jobs run. A second reading, which the refusals are proved to follow; no public promise cites it.
use Rattle.std.specs.Prelude.{ℕ, ◌+◌, ◌*◌, ◌≤◌, ◌<◌, ◌≡◌, true, ◌⊎◌, List, [], ◌∷◌}
use Rattle.places.specs.Refusals.{Row, row}
use Rattle.locks.specs.declared.Job.{Job}
use Rattle.locks.specs.declared.Starts.{Starts}
use Rattle.locks.specs.declared.Resource.{Resource}
use Rattle.locks.specs.declared.Request.{Request}
use Rattle.locks.specs.Bits.{has_bit}
use Rattle.locks.specs.Jobs.{job_at}
use Rattle.locks.specs.Ceilings.{resource_at}

-- the tick lies from a job's start up to but not at its end, in the period that begins at the time
abbrev pub Covers : ℕ → Job → ℕ → Type 0
Covers begin job tick = (begin + job.offset ≤ tick) × (tick < begin + job.offset + job.length)

-- a priority is among the users: some place has its bit, and the priority is one more than the place
abbrev pub User : ℕ → ℕ → Type 0
User users priority = (place : ℕ) × (place < 8) × (priority ≡ place + 1) × (has_bit users place ≡ true)

-- the rows of a request, in the order they are tried
unfoldable pub grant_rows : Starts → List Resource → Request → List Row
grant_rows s resources request =
    -- "up to eight jobs"
    row 20 (8 < s.count) ∷
    -- "a zero period"
    row 20 (s.period ≡ 0) ∷
    -- a zero length, or a job that does not end "within the period"
    row 20 ((place : ℕ) × (place < s.count) × (((job_at s.jobs place).length ≡ 0) ⊎ (s.period < (job_at s.jobs place).offset + (job_at s.jobs place).length))) ∷
    -- "Jobs .. don't overlap": some tick lies in two of them
    row 20 ((place : ℕ) × (place < s.count) × ((earlier : ℕ) × (earlier < place) × ((tick : ℕ) × Covers 0 (job_at s.jobs earlier) tick × Covers 0 (job_at s.jobs place) tick))) ∷
    -- "a holder who is no user"
    row 20 ((number : ℕ) × (number < 8) × ((resource_at resources number).holder ≡ 0 → ⊥) × (User (resource_at resources number).users (resource_at resources number).holder → ⊥)) ∷
    -- "t from a started job's start up to but not at its end", in some period
    row 21 ((place : ℕ) × (place < s.count) × ((nth : ℕ) × Covers (nth * s.period) (job_at s.jobs place) request.time)) ∷
    -- "a resource above 7, a length of 0 or a p not among the users"
    row 25 ((7 < request.resource) ⊎ ((request.length ≡ 0) ⊎ (User (resource_at resources request.resource).users request.priority → ⊥))) ∷
    -- "a resource already held by anyone"
    row 22 ((resource_at resources request.resource).holder ≡ 0 → ⊥) ∷
    []

-- the numbers of the rows
abbrev pub GrantNumber : ℕ → Type 0
GrantNumber r = ((20 ≤ r) × (r ≤ 22)) ⊎ (r ≡ 25)
