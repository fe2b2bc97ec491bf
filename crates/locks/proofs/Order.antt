-- The refusals are given in the order of the rows of specs/Broken.antt. Assumes nothing.
use Prim.Native.Nat.{ℕ, ◌+◌, ◌-◌, ◌*◌, ◌/◌, ◌%◌, ◌≤◌, ◌<◌, max}
use mathlib.Core.Path.{◌≡◌, refl, sym, ap, ◌∙◌}
use mathlib.Core.Bool.{Bool, true, false, cond, ◌||◌}
use mathlib.Core.Logic.{◌↔◌, inl, inr, ⊎_elim}
use mathlib.Core.List.{List}
use native.Mathlib.Nat.{div-add-mod'}
use native.Mathlib.Omega.{arith}
use lib.Arith.{digits_mod}
use lib.Dec.{eqb, ltb}
use Rattle.places.specs.Places.{some_below}
use Rattle.places.specs.Refusals.{InOrder}
use Rattle.places.proofs.Tells.{Tells, tells-iff, ltb-tells, leb_tells, eqb_tells, not-tells, or-tells, and-tells, tests}
use Rattle.places.proofs.Some.{some-tells, some-either}
use Rattle.places.proofs.Order.{Says, says_none, says_row, in_order}
use Rattle.locks.specs.declared.Job.{Job}
use Rattle.locks.specs.declared.Starts.{Starts}
use Rattle.locks.specs.declared.Resource.{Resource}
use Rattle.locks.specs.declared.Request.{Request}
use Rattle.locks.specs.Bits.{has_bit, is_user}
use Rattle.locks.specs.Jobs.{job_at, runs, busy}
use Rattle.locks.specs.Ceilings.{resource_at}
use Rattle.locks.specs.Rules.{is_wrong, overlaps_earlier, wrong_starts, wrong_holder, some_wrong_holder, wrong_request, is_held, grant_refusal}
use Rattle.locks.specs.Broken.{Covers, User, grant_rows, GrantNumber}
use Rattle.locks.proofs.Given.{within-tells, Wrong, wrong-tells, Overlap, overlap-tells, OverlapsEarlier}
use Rattle.locks.proofs.Tied.{job-tells}

-- `is_user` tells that some place has the priority's bit
pub user-tells : (users priority : ℕ) → Tells (User users priority) (is_user users priority)
unfolding is_user
user-tells users priority =
    tells-iff place_of known (and-tells (not-tells (eqb_tells priority 0)) (and-tells (leb_tells priority 8) (tests (has_bit users (priority - 1)))))
  where
    place_of : (priority ≡ 0 → ⊥) × ((priority ≤ 8) × (has_bit users (priority - 1) ≡ true)) → User users priority
    place_of h = (priority - 1, omega (arith, h.0, h.1.0), omega (arith, h.0), h.1.1)

    known : User users priority → (priority ≡ 0 → ⊥) × ((priority ≤ 8) × (has_bit users (priority - 1) ≡ true))
    known u =
        let same : priority - 1 ≡ u.0 = omega (arith, u.2) in
        (λ z. omega (arith, u.2), (omega (arith, u.1, u.2), ap (has_bit users) same ∙ u.3))

-- two jobs that have a length overlap exactly if some tick lies in both
common-tick : (a b : Job) → (a.length ≡ 0 → ⊥) → (b.length ≡ 0 → ⊥) → Overlap a b ↔ ((tick : ℕ) × Covers 0 a tick × Covers 0 b tick)
common-tick a b long long' = (λ h. (max a.offset b.offset, (omega arith, omega arith), (omega arith, omega arith)), λ w. (omega (arith, w.1, w.2), omega (arith, w.1, w.2)))

-- two tests for one number are tried one after the other
one_number : (a b : Bool) (number r : ℕ) → cond (a || b) number r ≡ cond a number (cond b number r)
one_number true b number r = refl
one_number false b number r = refl

module _ (s : Starts) where
  abbrev job : ℕ → Job
  job place = job_at s.jobs place

  -- a started job runs at a time exactly if the time lies in its ticks of some period
  in-some-period : 0 < s.period → (place : ℕ) → (job place).offset + (job place).length ≤ s.period → (time : ℕ)
      → (((job place).offset ≤ time % s.period) × (time % s.period < (job place).offset + (job place).length)) ↔ ((nth : ℕ) × Covers (nth * s.period) (job place) time)
  in-some-period some place inside time =
      (λ h. (time / s.period, (omega (arith, div-add-mod' time s.period), omega (arith, div-add-mod' time s.period))), λ w. phase w)
    where
      phase : (nth : ℕ) × Covers (nth * s.period) (job place) time → ((job place).offset ≤ time % s.period) × (time % s.period < (job place).offset + (job place).length)
      phase w =
          let from = w.1.0 in
          let up = w.1.1 in
          let rest = time - w.0 * s.period in
          let whole : w.0 * s.period + rest ≡ time = omega arith in
          let left : time % s.period ≡ rest = ap (λ (t : ℕ). t % s.period) (sym whole) ∙ digits_mod w.0 (omega arith) in
          (omega arith, omega arith)

module _ (s : Starts) (resources : List Resource) (request : Request) where
  -- the refusal with each row's test by itself
  split : grant_refusal s resources request
      ≡ cond (ltb 8 s.count) 20
      (cond (eqb s.period 0) 20
      (cond (some_below (λ place. is_wrong s.period (job s place)) s.count) 20
      (cond (some_below (overlaps_earlier s.jobs) s.count) 20
      (cond (some_wrong_holder resources) 20
      (cond (busy s request.time) 21
      (cond (wrong_request resources request) 25
      (cond (is_held resources request.resource) 22 0)))))))
  unfolding grant_refusal wrong_starts
  split =
      rw (some-either (λ place. is_wrong s.period (job s place)) (overlaps_earlier s.jobs) s.count)
      (one_number (ltb 8 s.count) _ 20 _
      ∙ ap (cond (ltb 8 s.count) 20)
      (one_number (eqb s.period 0) _ 20 _ ∙ ap (cond (eqb s.period 0) 20) (one_number (some_below (λ place. is_wrong s.period (job s place)) s.count) _ 20 _)))

  holder-tells : Tells ((number : ℕ) × (number < 8) × ((resource_at resources number).holder ≡ 0 → ⊥) × (User (resource_at resources number).users (resource_at resources number).holder → ⊥)) (some_wrong_holder resources)
  unfolding some_wrong_holder wrong_holder
  holder-tells =
      tells-iff (λ w. (w.0, w.1, w.2.0, w.2.1)) (λ w. (w.0, w.1, (w.2, w.3)))
      (some-tells (λ number. and-tells (not-tells (eqb_tells (resource_at resources number).holder 0)) (not-tells (user-tells (resource_at resources number).users (resource_at resources number).holder))) 8)

  -- some job is wrong by itself
  abbrev WrongJob : Type 0
  WrongJob = (place : ℕ) × (place < s.count) × Wrong s.period (job s place)

  -- where none is, an overlap is a tick that lies in two jobs
  overlapping : (WrongJob → ⊥)
      → Tells ((place : ℕ) × (place < s.count) × ((earlier : ℕ) × (earlier < place) × ((tick : ℕ) × Covers 0 (job s earlier) tick × Covers 0 (job s place) tick))) (some_below (overlaps_earlier s.jobs) s.count)
  unfolding overlaps_earlier
  overlapping right = tells-iff ticks overlaps (some-tells (λ place. some-tells (λ earlier. overlap-tells (job s earlier) (job s place)) place) s.count)
    where
      common : (place earlier : ℕ) → place < s.count → earlier < place → Overlap (job s earlier) (job s place) ↔ ((tick : ℕ) × Covers 0 (job s earlier) tick × Covers 0 (job s place) tick)
      common place earlier below low = common-tick (job s earlier) (job s place) (λ z. right (earlier, omega arith, inl z)) (λ z. right (place, below, inl z))

      ticks : (place : ℕ) × (place < s.count) × OverlapsEarlier (job s) place → (place : ℕ) × (place < s.count) × ((earlier : ℕ) × (earlier < place) × ((tick : ℕ) × Covers 0 (job s earlier) tick × Covers 0 (job s place) tick))
      ticks w = (w.0, w.1, (w.2.0, w.2.1, (common w.0 w.2.0 w.1 w.2.1).0 w.2.2))

      overlaps : (place : ℕ) × (place < s.count) × ((earlier : ℕ) × (earlier < place) × ((tick : ℕ) × Covers 0 (job s earlier) tick × Covers 0 (job s place) tick)) → (place : ℕ) × (place < s.count) × OverlapsEarlier (job s) place
      overlaps w = (w.0, w.1, (w.2.0, w.2.1, (common w.0 w.2.0 w.1 w.2.1).1 w.2.2))

  -- and being busy is lying in a job's ticks of some period
  running : (s.period ≡ 0 → ⊥) → (WrongJob → ⊥) → Tells ((place : ℕ) × (place < s.count) × ((nth : ℕ) × Covers (nth * s.period) (job s place) request.time)) (busy s request.time)
  unfolding busy runs
  running some right =
      tells-iff (λ w. (w.0, w.1, (period w.0 w.1).0 w.2)) (λ w. (w.0, w.1, (period w.0 w.1).1 w.2))
      (job-tells (λ other. within-tells other.offset other.length (request.time % s.period)) s.jobs s.count)
    where
      period : (place : ℕ) → place < s.count
          → (((job s place).offset ≤ request.time % s.period) × (request.time % s.period < (job s place).offset + (job s place).length)) ↔ ((nth : ℕ) × Covers (nth * s.period) (job s place) request.time)
      period place below =
          let ends : s.period < (job s place).offset + (job s place).length → ⊥ = λ h. right (place, below, inr h) in
          in-some-period s (omega arith) place (omega arith) request.time

  -- the refusal says it of the rows
  grant-says : Says GrantNumber (grant_rows s resources request) (grant_refusal s resources request)
  unfolding grant_rows wrong_request is_held
  grant-says =
      rw split
      (says_row (inl (omega arith)) (ltb-tells 8 s.count) (λ few.
      says_row (inl (omega arith)) (eqb_tells s.period 0) (λ some.
      says_row (inl (omega arith)) (some-tells (λ place. wrong-tells s.period (job s place)) s.count) (λ right.
      says_row (inl (omega arith)) (overlapping right) (λ apart.
      says_row (inl (omega arith)) holder-tells (λ users.
      says_row (inl (omega arith)) (running some right) (λ idle.
      says_row (inr refl) (or-tells (ltb-tells 7 request.resource) (or-tells (eqb_tells request.length 0) (not-tells (user-tells (resource_at resources request.resource).users request.priority)))) (λ asked.
      says_row (inl (omega arith)) (not-tells (eqb_tells (resource_at resources request.resource).holder 0)) (λ unheld. says_none)))))))))

  -- the number is given in the order of the rows
  pub grant-in-order : InOrder GrantNumber (grant_rows s resources request) (grant_refusal s resources request)
  grant-in-order = in_order (λ r k. ⊎_elim (λ h. omega arith) (λ e. omega arith) k) grant-says
