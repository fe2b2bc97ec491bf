-- "Refusals, in this order": 20, 21, 25, 22.
use Rattle.std.specs.Prelude.{ℕ, ◌+◌, Bool, cond, not, ◌&&◌, ◌||◌, List, eqb, ltb}
use Rattle.places.specs.Places.{some_below}
use Rattle.locks.specs.declared.Job.{Job}
use Rattle.locks.specs.declared.Starts.{Starts}
use Rattle.locks.specs.declared.Resource.{Resource}
use Rattle.locks.specs.declared.Request.{Request}
use Rattle.locks.specs.Bits.{is_user}
use Rattle.locks.specs.Jobs.{job_at, busy}
use Rattle.locks.specs.Ceilings.{resource_at}

-- "each ends within the period", and a "zero .. length"
unfoldable pub is_wrong : ℕ → Job → Bool
is_wrong period job = eqb job.length 0 || ltb period (job.offset + job.length)

-- two jobs overlap: each starts before the other ends
unfoldable pub overlap : Job → Job → Bool
overlap job other = ltb job.offset (other.offset + other.length) && ltb other.offset (job.offset + job.length)

-- the job at a place overlaps an earlier one
unfoldable pub overlaps_earlier : List Job → ℕ → Bool
overlaps_earlier jobs place = some_below (λ earlier. overlap (job_at jobs earlier) (job_at jobs place)) place

-- "a start table breaking these rules or with a zero period or length": "up to eight jobs", "Jobs stand in any order, don't overlap, and each ends within the period"
unfoldable pub wrong_starts : Starts → Bool
wrong_starts s = ltb 8 s.count || (eqb s.period 0 || some_below (λ place. is_wrong s.period (job_at s.jobs place) || overlaps_earlier s.jobs place) s.count)

-- "a holder who is no user"
unfoldable pub wrong_holder : Resource → Bool
wrong_holder resource = not (eqb resource.holder 0) && not (is_user resource.users resource.holder)

-- on any of the eight resources
unfoldable pub some_wrong_holder : List Resource → Bool
some_wrong_holder resources = some_below (λ number. wrong_holder (resource_at resources number)) 8

-- "a resource above 7, a length of 0 or a p not among the users"
unfoldable pub wrong_request : List Resource → Request → Bool
wrong_request resources request =
    ltb 7 request.resource || (eqb request.length 0 || not (is_user (resource_at resources request.resource).users request.priority))

-- "a resource already held by anyone"
unfoldable pub is_held : List Resource → ℕ → Bool
is_held resources number = not (eqb (resource_at resources number).holder 0)

-- the refusal of a request: 20, then 21 "t from a started job's start up to but not at its end", then 25, then 22
unfoldable pub grant_refusal : Starts → List Resource → Request → ℕ
grant_refusal s resources request =
    cond (wrong_starts s) 20
    (cond (some_wrong_holder resources) 20
    (cond (busy s request.time) 21
    (cond (wrong_request resources request) 25
    (cond (is_held resources request.resource) 22 0))))
