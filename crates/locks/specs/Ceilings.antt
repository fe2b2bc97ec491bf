-- Ceilings, and the first condition of the grant rule.
use Rattle.std.specs.Prelude.{ℕ, Bool, cond, not, ◌&&◌, List, eqb, leb, get_or}
use Rattle.places.specs.Places.{some_below}
use Rattle.locks.specs.declared.Starts.{Starts}
use Rattle.locks.specs.declared.Resource.{Resource}
use Rattle.locks.specs.Bits.{highest_user}
use Rattle.locks.specs.Jobs.{is_critical}

-- a resource that nobody uses or holds
abbrev pub no_resource : Resource
no_resource = record { users = 0; holder = 0 }

-- the resource of a number
unfoldable pub resource_at : List Resource → ℕ → Resource
resource_at resources number = get_or resources number no_resource

-- "A resource used by a started job is critical and its ceiling stands above all tasks", whose priorities end at 8; "otherwise the ceiling is the highest priority among its users"
unfoldable pub ceiling_of : Bool → ℕ → ℕ
ceiling_of critical users = cond critical 9 (highest_user users)

-- the ceiling of the resource of a number
unfoldable pub ceiling : Starts → List Resource → ℕ → ℕ
ceiling s resources number = ceiling_of (is_critical s number) (resource_at resources number).users

-- "held by another task": by anyone but the task of the priority itself
unfoldable pub held_by_another : Resource → ℕ → Bool
held_by_another resource priority = not (eqb resource.holder 0) && not (eqb resource.holder priority)

-- whether the resource is held by another task and the priority is not above its ceiling
unfoldable pub bars : Resource → Bool → ℕ → Bool
bars resource critical priority = held_by_another resource priority && leb priority (ceiling_of critical resource.users)

-- whether some resource bars the priority; "p is above every ceiling of a resource held by another task" where none does
unfoldable pub barred : Starts → List Resource → ℕ → Bool
barred s resources priority = some_below (λ number. bars (resource_at resources number) (is_critical s number) priority) 8
