-- Start tables, resources, requests and their answers as the numbers that pass between C and the desk.
use Rattle.std.specs.Prelude.{ℕ, ◌+◌, ◌*◌, cond, List, eqb, ℤ, length, set, replicate}
use Rattle.places.specs.Places.{filled_below}
use Rattle.places.specs.Refusals.{or_else}
use Rattle.locks.specs.declared.Job.{Job}
use Rattle.locks.specs.declared.Starts.{Starts}
use Rattle.locks.specs.declared.Resource.{Resource}
use Rattle.locks.specs.declared.Request.{Request}
use Rattle.locks.specs.declared.Granting.{Granting}
use Rattle.locks.specs.Jobs.{no_job}
use Rattle.locks.specs.Ceilings.{no_resource}
use Rattle.locks.specs.Answers.{grant_answer}
use Rattle.fidhaqooban.specs.Numbers.{answer_of, number_at}

-- "offset and length of each job", "the resources of each job, as bits"
unfoldable pub given_job : List ℕ → List ℕ → ℕ → Job
given_job starts uses place = record { offset = number_at starts (2 * place); length = number_at starts (2 * place + 1); uses = number_at uses place }

-- the start table whose eight jobs the numbers give
unfoldable pub given_starts : ℕ → ℕ → List ℕ → List ℕ → Starts
given_starts period count starts uses = record { period = period; count = count; jobs = filled_below (given_job starts uses) 8 (replicate 8 no_job) }

-- "users of resources 0 to 7, then holders of 0 to 7"
unfoldable pub given_resource : List ℕ → ℕ → Resource
given_resource resources number = record { users = number_at resources number; holder = number_at resources (8 + number) }

-- the eight resources that the numbers give
unfoldable pub given_resources : List ℕ → List Resource
given_resources resources = filled_below (given_resource resources) 8 (replicate 8 no_resource)

-- a request from its four numbers
abbrev pub given_request : ℕ → ℕ → ℕ → ℕ → Request
given_request priority time resource length = record { priority = priority; time = time; resource = resource; length = length }

-- what is answered to a request in these numbers
unfoldable pub granting_of : ℕ → ℕ → List ℕ → List ℕ → List ℕ → Request → Granting
granting_of period count starts uses resources request = grant_answer (given_starts period count starts uses) (given_resources resources) request

-- the refusal of `fq_grant`: the request's, "11 last, where margin_len is 0"
unfoldable pub lock_refusal : Granting → List ℤ → ℕ
lock_refusal granting margin = or_else granting.refusal (cond (eqb (length margin) 0) 11 0)

-- `fq_grant`: "1 granted, 0 not, minus the refusal"
unfoldable pub lock_number : Granting → List ℤ → ℤ
lock_number granting margin = answer_of (lock_refusal granting margin) (cond granting.granted 1 0)

-- what it leaves in the output: "The margin goes into `margin[0]` unless refused"
unfoldable pub lock_left : Granting → List ℤ → List ℤ
lock_left granting margin = cond (eqb (lock_refusal granting margin) 0) (set margin 0 granting.margin) margin
