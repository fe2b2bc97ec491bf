-- Request 9's demands in its own words, about the definitions. That the refusals are given in its order is `grant-in-order` of Order.antt, its example Rows.antt, and that the jobs' order plays no part `order-no-part` of Rearranged.antt. Assumes nothing.
use Prim.Native.Nat.{ℕ, suc, ◌+◌, ◌-◌, ◌/◌, ◌%◌, ◌≤◌, ◌<◌}
use mathlib.Core.Path.{◌≡◌, refl, sym, ap, ◌∙◌}
use mathlib.Core.Bool.{Bool, true, false, cond, not, ◌&&◌, true≢false}
use mathlib.Core.Logic.{◌⊎◌, ◌↔◌, inl, inr, ⊎_elim}
use mathlib.Core.List.{List}
use native.Mathlib.Nat.{add-mod_right, add-div_right, le-div_iff_mul-le, div-mul-le_self}
use native.Mathlib.Decide.{dec_le}
use native.Mathlib.Omega.{arith}
use lib.IntN.{pos, negsuc, ◌-ℤ◌}
use Rattle.places.specs.Places.{count_below, highest_below}
use Rattle.places.specs.Search.{first_from}
use Rattle.places.proofs.Tells.{Tells, holds, fails, told, shown, unshown, tells-iff, leb_tells, eqb_tells, not-tells, or-tells, and-tells, tests}
use Rattle.places.proofs.Some.{some-tells}
use Rattle.places.proofs.Counted.{count-reaches}
use Rattle.places.proofs.Largest.{highest-low, highest-one}
use Rattle.places.proofs.Search.{Fails, first_some}
use Rattle.places.proofs.Difference.{difference-left, difference-missing}
use Rattle.locks.specs.declared.Starts.{Starts}
use Rattle.locks.specs.declared.Resource.{Resource}
use Rattle.locks.specs.declared.Request.{Request}
use Rattle.locks.specs.declared.Granting.{Granting}
use Rattle.locks.specs.Bits.{has_bit, highest_user}
use Rattle.locks.specs.Jobs.{job_at, some_job, within, runs, busy, is_critical, starts_at}
use Rattle.locks.specs.Ceilings.{resource_at, ceiling_of, ceiling, held_by_another, bars, barred}
use Rattle.locks.specs.Free.{next_start, is_free, free_ticks, free_time}
use Rattle.locks.specs.Rules.{grant_refusal}
use Rattle.locks.specs.Answers.{fits, is_granted, grant_answer}
use Rattle.locks.specs.Broken.{User}
use Rattle.locks.specs.Distances.{nearest, between}
use Rattle.locks.proofs.Given.{GoodStarts, good-starts, within-tells}
use Rattle.locks.proofs.Cycle.{comes-round}
use Rattle.locks.proofs.Tied.{job-tells, starts-at-tells, near-low, near-inside, next-tied, free-tied, runs-at}
use Rattle.locks.proofs.Cases.{accepted}
use Rattle.locks.proofs.Answered.{answer-refused, answer-plain, answer-critical}

-- "A resource used by a started job is critical"
abbrev pub Critical : Starts → ℕ → Type 0
Critical s resource = (place : ℕ) × (place < s.count) × (has_bit (job_at s.jobs place).uses resource ≡ true)

pub critical-tells : (s : Starts) (resource : ℕ) → Tells (Critical s resource) (is_critical s resource)
unfolding is_critical
critical-tells s resource = job-tells (λ job. tests (has_bit job.uses resource)) s.jobs s.count

module _ (s : Starts) (resources : List Resource) (number : ℕ) where
  -- "its ceiling stands above all tasks"
  pub ceiling-critical : Critical s number → (priority : ℕ) → priority ≤ 8 → priority < ceiling s resources number
  unfolding ceiling ceiling_of
  ceiling-critical used priority low = go (critical-tells s number)
    where
      go : {b : Bool} → Tells (Critical s number) b → priority < cond b 9 (highest_user (resource_at resources number).users)
      go (holds p) = omega arith
      go (fails n) = absurd (n used)

  -- "otherwise the ceiling is the highest priority among its users": no user is above it, and it is a user's, or 0 where there is none
  pub ceiling-plain : (Critical s number → ⊥)
      → ((priority : ℕ) → User (resource_at resources number).users priority → priority ≤ ceiling s resources number)
      × ((ceiling s resources number ≡ 0) ⊎ User (resource_at resources number).users (ceiling s resources number))
  unfolding ceiling ceiling_of highest_user
  ceiling-plain unused = go (critical-tells s number)
    where
      users : ℕ
      users = (resource_at resources number).users

      go : {b : Bool} → Tells (Critical s number) b → ((priority : ℕ) → User users priority → priority ≤ cond b 9 (highest_below (has_bit users) 8)) × ((cond b 9 (highest_below (has_bit users) 8) ≡ 0) ⊎ User users (cond b 9 (highest_below (has_bit users) 8)))
      go (holds p) = absurd (unused p)
      go (fails n) = (λ priority u. omega (arith, u.2, highest-low (has_bit users) u.0 8 u.1 u.3), ⊎_elim inl (λ w. inr (w.0, w.1, w.2, w.3)) (highest-one (has_bit users) 8))

-- "held by another task"
abbrev pub HeldByAnother : Resource → ℕ → Type 0
HeldByAnother resource priority = (resource.holder ≡ 0 → ⊥) × (resource.holder ≡ priority → ⊥)

-- "p is above every ceiling of a resource held by another task"
abbrev pub AboveHeld : Starts → List Resource → ℕ → Type 0
AboveHeld s resources priority = (number : ℕ) → number < 8 → HeldByAnother (resource_at resources number) priority → ceiling s resources number < priority

above-tells : (s : Starts) (resources : List Resource) (priority : ℕ) → Tells (AboveHeld s resources priority) (not (barred s resources priority))
unfolding barred bars held_by_another ceiling
above-tells s resources priority =
    tells-iff (λ none number below held. above none number below held) (λ all w. omega (arith, all w.0 w.1 w.2.0, w.2.1))
    (not-tells (some-tells (λ number. and-tells (and-tells (not-tells (eqb_tells (resource_at resources number).holder 0)) (not-tells (eqb_tells (resource_at resources number).holder priority))) (leb_tells priority (ceiling s resources number))) 8))
  where
    above : ((number : ℕ) × (number < 8) × (HeldByAnother (resource_at resources number) priority × (priority ≤ ceiling s resources number)) → ⊥) → AboveHeld s resources priority
    above none number below held = let low : priority ≤ ceiling s resources number → ⊥ = λ h. none (number, below, (held, h)) in omega arith

-- "for a critical one, the length fits into the free time before the next start that uses it"
abbrev pub Fits : Starts → Request → Type 0
Fits s request = Critical s request.resource → request.length ≤ free_time s request.resource request.time

fits-tells : (s : Starts) (request : Request) → Tells (Fits s request) (fits s request)
unfolding fits
fits-tells s request = tells-iff (λ w used. ⊎_elim (λ n. absurd (n used)) (λ h. h) w) (λ f. go f (critical-tells s request.resource)) (or-tells (not-tells (critical-tells s request.resource)) (leb_tells request.length (free_time s request.resource request.time)))
  where
    go : {b : Bool} → Fits s request → Tells (Critical s request.resource) b → (Critical s request.resource → ⊥) ⊎ (request.length ≤ free_time s request.resource request.time)
    go f (holds used) = inr (f used)
    go f (fails n) = inl n

module _ (s : Starts) (resources : List Resource) (request : Request) where
  -- "Grant exactly if p is above every ceiling of a resource held by another task and, for a critical one, the length fits into the free time before the next start that uses it."
  pub granted-exactly : grant_refusal s resources request ≡ 0 → ((grant_answer s resources request).granted ≡ true) ↔ (AboveHeld s resources request.priority × Fits s request)
  unfolding grant_answer is_granted
  granted-exactly fine = simp fine (told both, shown both)
    where
      both : Tells (AboveHeld s resources request.priority × Fits s request) (not (barred s resources request.priority) && fits s request)
      both = and-tells (above-tells s resources request.priority) (fits-tells s request)

  -- a refusal gives its number, not granted, and margin 0
  pub refused-nothing : (grant_refusal s resources request ≡ 0 → ⊥) → ((grant_answer s resources request).refusal ≡ grant_refusal s resources request) × ((grant_answer s resources request).granted ≡ false) × ((grant_answer s resources request).margin ≡ pos 0)
  refused-nothing broken = rw (answer-refused s resources request broken) (refl, refl, refl)

  -- "free time minus length, which may be negative; for a resource that is not critical it is 0"
  pub margin-exactly : grant_refusal s resources request ≡ 0
      → (Critical s request.resource → (grant_answer s resources request).margin ≡ pos (free_time s request.resource request.time) -ℤ pos request.length)
      × ((Critical s request.resource → ⊥) → (grant_answer s resources request).margin ≡ pos 0)
  margin-exactly fine = (
    λ used. ap (λ (g : Granting). g.margin) (answer-critical s resources request fine (shown (critical-tells s request.resource) used)),
    λ unused. ap (λ (g : Granting). g.margin) (answer-plain s resources request fine (unshown (critical-tells s request.resource) unused)),
  )

  -- so it is what is left where the length fits, and what is missing, with a minus sign, where it does not
  pub margin-sign : grant_refusal s resources request ≡ 0 → Critical s request.resource
      → (request.length ≤ free_time s request.resource request.time → (grant_answer s resources request).margin ≡ pos (free_time s request.resource request.time - request.length))
      × (free_time s request.resource request.time < request.length → (grant_answer s resources request).margin ≡ negsuc (request.length - suc (free_time s request.resource request.time)))
  margin-sign fine used =
      let margin = (margin-exactly fine).0 used in
      (λ fit. margin ∙ difference-left (free_time s request.resource request.time) request.length fit, λ missing. margin ∙ difference-missing (free_time s request.resource request.time) request.length missing)

-- the next start that uses a resource, as a proposition about times
pub record Next (s : Starts) (resource time start : ℕ) : Type 0 where
  -- it lies after the time
  pub later : time < start
  -- "in this period or the next"
  pub soon : (start / s.period ≡ time / s.period) ⊎ (start / s.period ≡ time / s.period + 1)
  -- a job that uses the resource starts there
  pub starts : (place : ℕ) × (place < s.count) × ((has_bit (job_at s.jobs place).uses resource ≡ true) × (start % s.period ≡ (job_at s.jobs place).offset))
  -- and none between
  pub first : (between : ℕ) → time < between → between < start → (place : ℕ) → place < s.count → has_bit (job_at s.jobs place).uses resource ≡ true → between % s.period ≡ (job_at s.jobs place).offset → ⊥

-- the next start is the first after any time: the window of one period loses nothing
pub next-exactly : (s : Starts) → GoodStarts s → (resource time : ℕ) → Critical s resource → Next s resource time (next_start s resource time)
unfolding next_start
next-exactly s good resource time used =
    record {
      later = omega (arith, found.0);
      soon = period-of (first_from test (time + 1) s.period) found.0 (omega (arith, found.1, round.2));
      starts = told (starts-at-tells s resource (first_from test (time + 1) s.period)) found.2;
      first = λ x low high place below uses at. true≢false (sym (shown (starts-at-tells s resource x) (place, below, (uses, at))) ∙ found.3 x (omega arith) high);
    }
  where
    test : ℕ → Bool
    test = starts_at s resource

    round : (k : ℕ) × (0 < k) × (k ≤ s.period) × ((time + k) % s.period ≡ (job_at s.jobs used.0).offset)
    round = comes-round s.period time (job_at s.jobs used.0).offset (omega (arith, good.inside used.0 used.1, good.long used.0 used.1))

    found : (time + 1 ≤ first_from test (time + 1) s.period) × (first_from test (time + 1) s.period ≤ time + round.0) × (test (first_from test (time + 1) s.period) ≡ true) × Fails test (time + 1) (first_from test (time + 1) s.period)
    found = first_some test s.period (time + 1) (time + round.0) (omega (arith, round.1)) (omega (arith, round.2)) (shown (starts-at-tells s resource (time + round.0)) (used.0, used.1, (used.2, round.3)))

    period-of : (start : ℕ) → time + 1 ≤ start → start ≤ time + s.period → (start / s.period ≡ time / s.period) ⊎ (start / s.period ≡ time / s.period + 1)
    period-of start low high = go (dec_le (start / s.period) (time / s.period))
      where
        from : time / s.period ≤ start / s.period
        from = (le-div_iff_mul-le good.some).1 (omega (arith, div-mul-le_self time s.period))

        up : start / s.period ≤ (time + s.period) / s.period
        up = (le-div_iff_mul-le good.some).1 (omega (arith, div-mul-le_self start s.period))

        go : Dec (start / s.period ≤ time / s.period) → (start / s.period ≡ time / s.period) ⊎ (start / s.period ≡ time / s.period + 1)
        go (yes h) = inl (omega (arith, from))
        go (no h) = inr (omega (arith, up, add-div_right time good.some))

module _ (s : Starts) (good : GoodStarts s) (resource : ℕ) (used : Critical s resource) where
  critical : is_critical s resource ≡ true
  critical = shown (critical-tells s resource) used

  -- the free time is what the code computes of the table, for every period and time when no started job runs
  pub free-computed : (time : ℕ) → busy s time ≡ false
      → let near = nearest s.period (time % s.period) resource s.jobs s.count in
      free_time s resource time ≡ near - between s.period (time % s.period) near s.jobs s.count
  free-computed time idle = omega (arith, free-tied s time good idle resource critical)

  -- "the table repeats every period": so does the free time
  pub free-repeats : (time : ℕ) → busy s time ≡ false → free_time s resource (time + s.period) ≡ free_time s resource time
  unfolding busy runs
  free-repeats time idle =
      let phase : (time + s.period) % s.period ≡ time % s.period = add-mod_right time s.period in
      let later : busy s (time + s.period) ≡ false = ap (λ (p : ℕ). some_job s.jobs s.count (λ job. within job.offset job.length p)) phase ∙ idle in
      free-computed (time + s.period) later
      ∙ ap (λ (p : ℕ). nearest s.period p resource s.jobs s.count - between s.period p (nearest s.period p resource s.jobs s.count) s.jobs s.count) phase
      ∙ sym (free-computed time idle)

-- What it is for a request that runs in free ticks only to be over in time
pub record InTime (s : Starts) (request : Request) (over : ℕ) : Type 0 where
  -- it is over before the next start that uses the resource: none of its ticks is at that start or after it
  pub before : over ≤ next_start s request.resource request.time
  -- by then as many free ticks have gone by as it is long
  pub done : free_ticks s request.time over ≡ request.length
  -- and in no tick till then does a started job that uses the resource run, so that none waits for it
  pub alone : (tick : ℕ) → request.time ≤ tick → tick < over → (place : ℕ) → place < s.count → has_bit (job_at s.jobs place).uses request.resource ≡ true → runs s.period (job_at s.jobs place) tick ≡ false

module _ (s : Starts) (resources : List Resource) (request : Request) (granted : (grant_answer s resources request).granted ≡ true) where
  -- what is granted is not refused
  pub granted-fine : grant_refusal s resources request ≡ 0
  unfolding grant_answer
  granted-fine = (told (and-tells (eqb_tells (grant_refusal s resources request) 0) (tests (is_granted s resources request))) granted).0

  -- the point of the rule: a granted request for a critical resource is over before the next start that uses it, even if it runs in free ticks only
  pub granted-in-time : Critical s request.resource → (over : ℕ) × InTime s request over
  unfolding free_time free_ticks
  granted-in-time used =
      let resource = request.resource in
      let time = request.time in
      let fine = accepted s resources request granted-fine in
      let good = good-starts s fine.starts in
      let critical : is_critical s resource ≡ true = shown (critical-tells s resource) used in
      let near = next-tied s time good fine.idle resource critical in
      let w = count-reaches (λ tick. is_free s (time + tick)) (next_start s resource time - time) request.length (((granted-exactly s resources request granted-fine).0 granted).1 used) in (
        time + w.0,
        record {
          before = omega (arith, w.1, near);
          done = ap (count_below (λ tick. is_free s (time + tick))) (omega arith) ∙ w.2;
          alone = λ tick low high place below uses.
              let k = tick - time in
              let same : time + k ≡ tick = omega arith in
              let inside = near-inside s time good fine.idle resource critical in
              ap (runs s.period (job_at s.jobs place)) (sym same) ∙ runs-at s time good fine.idle place below k (omega (arith, w.1, near, inside.1))
              ∙ unshown (within-tells _ _ k) (λ h. omega (arith, h.0, w.1, near, near-low s time good fine.idle resource critical place below uses));
        },
      )
