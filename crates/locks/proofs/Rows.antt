-- The request's example, by computation: "With period 40, starts at 5 for 6 and at 20 for 3, and the resource used by the second only, a request at 3 has 11 free: length 11 is granted, 12 is not." Assumes nothing.
use Prim.Native.Nat.{ℕ}
use mathlib.Core.Path.{◌≡◌, refl}
use mathlib.Core.Bool.{true, false}
use mathlib.Core.List.{List, ◌∷◌}
use lib.IntN.{pos, negsuc}
use lib.ListN.{replicate}
use Rattle.places.specs.Places.{some_below, one_if, count_below, highest_below}
use Rattle.places.specs.Search.{first_from}
use Rattle.locks.specs.declared.Starts.{Starts}
use Rattle.locks.specs.declared.Resource.{Resource}
use Rattle.locks.specs.declared.Request.{Request}
use Rattle.locks.specs.Bits.{has_bit, is_user, highest_user}
use Rattle.locks.specs.Jobs.{no_job, job_at, some_job, within, runs, busy, is_critical, starts_at}
use Rattle.locks.specs.Ceilings.{resource_at, ceiling_of, held_by_another, bars, barred}
use Rattle.locks.specs.Free.{next_start, is_free, free_ticks, free_time}
use Rattle.locks.specs.Rules.{is_wrong, overlap, overlaps_earlier, wrong_starts, wrong_holder, some_wrong_holder, wrong_request, is_held, grant_refusal}
use Rattle.locks.specs.Answers.{fits, is_granted, margin_of, grant_answer}

-- "period 40, starts at 5 for 6 and at 20 for 3, and the resource used by the second only"
unfoldable pub starts : Starts
starts =
    record {
      period = 40;
      count = 2;
      jobs = record { offset = 5; length = 6; uses = 0 } ∷ record { offset = 20; length = 3; uses = 1 } ∷ replicate 6 no_job;
    }

-- the task of priority 1 is a user of each resource, and nobody holds one
unfoldable pub resources : List Resource
resources = replicate 8 (record { users = 1; holder = 0 })

-- "a request at 3" for so many ticks
unfoldable pub request : ℕ → Request
request length = record { priority = 1; time = 3; resource = 0; length = length }

-- "a request at 3 has 11 free", up to the start at 20
pub example-free : (next_start starts 0 3 ≡ 20) × (free_time starts 0 3 ≡ 11)
unfolding starts some_below one_if count_below first_from has_bit job_at some_job within runs busy starts_at next_start is_free free_ticks free_time
example-free = (refl, refl)

-- "length 11 is granted, 12 is not"
pub example-granted : (grant_answer starts resources (request 11) ≡ record { refusal = 0; granted = true; margin = pos 0 }) × (grant_answer starts resources (request 12) ≡ record { refusal = 0; granted = false; margin = negsuc 0 })
unfolding starts resources request some_below one_if count_below first_from highest_below has_bit is_user highest_user job_at some_job within runs busy is_critical starts_at resource_at ceiling_of held_by_another bars barred next_start is_free free_ticks free_time is_wrong overlap overlaps_earlier wrong_starts wrong_holder some_wrong_holder wrong_request is_held grant_refusal fits is_granted margin_of grant_answer
example-granted = (refl, refl)
