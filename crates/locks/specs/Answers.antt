-- What the call answers, refusals included.
use Rattle.std.specs.Prelude.{Bool, cond, not, ◌&&◌, ◌||◌, List, eqb, leb, ℤ, pos, ◌-ℤ◌}
use Rattle.locks.specs.declared.Starts.{Starts}
use Rattle.locks.specs.declared.Resource.{Resource}
use Rattle.locks.specs.declared.Request.{Request}
use Rattle.locks.specs.declared.Granting.{Granting}
use Rattle.locks.specs.Jobs.{is_critical}
use Rattle.locks.specs.Ceilings.{barred}
use Rattle.locks.specs.Free.{free_time}
use Rattle.locks.specs.Rules.{grant_refusal}

-- "for a critical one, the length fits into the free time before the next start that uses it"
unfoldable pub fits : Starts → Request → Bool
fits s request = not (is_critical s request.resource) || leb request.length (free_time s request.resource request.time)

-- "Grant exactly if p is above every ceiling of a resource held by another task and, for a critical one, the length fits into the free time before the next start that uses it."
unfoldable pub is_granted : Starts → List Resource → Request → Bool
is_granted s resources request = not (barred s resources request.priority) && fits s request

-- "Give the margin too, free time minus length, which may be negative; for a resource that is not critical it is 0."
unfoldable pub margin_of : Starts → Request → ℤ
margin_of s request = cond (is_critical s request.resource) (pos (free_time s request.resource request.time) -ℤ pos request.length) (pos 0)

-- `grant`: the refusal beside the grant and the margin; not granted and 0 where it is refused
unfoldable pub grant_answer : Starts → List Resource → Request → Granting
grant_answer s resources request =
    record {
      refusal = grant_refusal s resources request;
      granted = eqb (grant_refusal s resources request) 0 && is_granted s resources request;
      margin = cond (eqb (grant_refusal s resources request) 0) (margin_of s request) (pos 0);
    }
