-- "Jobs stand in any order": the order of the jobs in a start table plays no part in any answer, and what stands past the count none. Assumes nothing.
use Prim.Native.Nat.{ℕ, ◌+◌, ◌-◌, ◌%◌, ◌<◌}
use mathlib.Core.Path.{◌≡◌, refl, sym, ap, ap₂, ◌∙◌, fun_ext, subst}
use mathlib.Core.Bool.{Bool, true, cond, not, ◌&&◌, ◌||◌}
use mathlib.Core.Logic.{◌⊎◌, inl, inr}
use mathlib.Core.List.{List}
use native.Mathlib.Decide.{dec_lt}
use native.Mathlib.Omega.{arith}
use lib.Dec.{eqb, leb}
use lib.IntN.{pos, ◌-ℤ◌}
use Rattle.places.specs.Places.{some_below, count_below}
use Rattle.places.specs.Search.{first_from}
use Rattle.places.proofs.Tells.{tells-iff, tells-same, tests}
use Rattle.locks.specs.declared.Job.{Job}
use Rattle.locks.specs.declared.Starts.{Starts}
use Rattle.locks.specs.declared.Resource.{Resource}
use Rattle.locks.specs.declared.Request.{Request}
use Rattle.locks.specs.Bits.{has_bit}
use Rattle.locks.specs.Jobs.{job_at, some_job, runs, busy, is_critical, starts_at}
use Rattle.locks.specs.Ceilings.{resource_at, bars, barred}
use Rattle.locks.specs.Free.{next_start, is_free, free_ticks, free_time}
use Rattle.locks.specs.Rules.{wrong_starts, some_wrong_holder, wrong_request, is_held, grant_refusal}
use Rattle.locks.specs.Answers.{fits, is_granted, margin_of, grant_answer}
use Rattle.locks.proofs.Given.{Wrong, WrongStarts, OverlapsEarlier, starts-tell}
use Rattle.locks.proofs.Tied.{job-tells}

-- one table has the jobs of another at other places: each place of the one goes to a place of the other, and back
pub record Rearranged (s t : Starts) : Type 0 where
  pub period : s.period ≡ t.period
  pub count : s.count ≡ t.count
  pub there : ℕ → ℕ
  pub back : ℕ → ℕ
  pub there-low : (k : ℕ) → k < s.count → there k < s.count
  pub back_low : (k : ℕ) → k < s.count → back k < s.count
  pub there_back : (k : ℕ) → k < s.count → there (back k) ≡ k
  pub back-there : (k : ℕ) → k < s.count → back (there k) ≡ k
  pub same : (k : ℕ) → k < s.count → job_at t.jobs (there k) ≡ job_at s.jobs k

-- then the other has the jobs of the one
turned : {s t : Starts} → Rearranged s t → Rearranged t s
turned {s} {t} r =
    record {
      period = sym r.period;
      count = sym r.count;
      there = r.back;
      back = r.there;
      there-low = λ k below. omega (arith, r.count, r.back_low k (omega (arith, r.count)));
      back_low = λ k below. omega (arith, r.count, r.there-low k (omega (arith, r.count)));
      there_back = λ k below. r.back-there k (omega (arith, r.count));
      back-there = λ k below. r.there_back k (omega (arith, r.count));
      same = λ k below. let low : k < s.count = omega (arith, r.count) in sym (r.same (r.back k) (r.back_low k low)) ∙ ap (job_at t.jobs) (r.there_back k low);
    }

module _ {s t : Starts} (r : Rearranged s t) where
  -- what some job of the one has, some job of the other has
  moves : (P : Job → Type 0) → (k : ℕ) × (k < s.count) × P (job_at s.jobs k) → (k : ℕ) × (k < t.count) × P (job_at t.jobs k)
  moves P w = (r.there w.0, omega (arith, r.count, r.there-low w.0 w.1), subst P (sym (r.same w.0 w.1)) w.2)

  -- two jobs that overlap still do, whichever of them now stands first
  overlaps : (place : ℕ) → place < s.count → OverlapsEarlier (job_at s.jobs) place → (k : ℕ) × (k < t.count) × OverlapsEarlier (job_at t.jobs) k
  overlaps place below w = go (dec_lt (r.there w.0) (r.there place)) (dec_lt (r.there place) (r.there w.0))
    where
      low : w.0 < s.count
      low = omega (arith, w.1, below)

      first : job_at t.jobs (r.there w.0) ≡ job_at s.jobs w.0
      first = r.same w.0 low

      second : job_at t.jobs (r.there place) ≡ job_at s.jobs place
      second = r.same place below

      go : Dec (r.there w.0 < r.there place) → Dec (r.there place < r.there w.0) → (k : ℕ) × (k < t.count) × OverlapsEarlier (job_at t.jobs) k
      go (yes h) d = (r.there place, omega (arith, r.count, r.there-low place below), (r.there w.0, h, rw (first, second) w.2))
      go (no n) (yes h) = (r.there w.0, omega (arith, r.count, r.there-low w.0 low), (r.there place, h, rw (first, second) (w.2.1, w.2.0)))
      go (no n) (no m) =
          let one : r.there w.0 ≡ r.there place = omega arith in
          absurd (omega (arith, w.1, sym (r.back-there w.0 low) ∙ ap r.back one ∙ r.back-there place below))

  -- so what is wrong with the one is wrong with the other
  wrong : WrongStarts s → WrongStarts t
  wrong (inl h) = inl (omega (arith, r.count))
  wrong (inr (inl h)) = inr (inl (sym r.period ∙ h))
  wrong (inr (inr w)) = inr (inr (go w.2))
    where
      go : Wrong s.period (job_at s.jobs w.0) ⊎ OverlapsEarlier (job_at s.jobs) w.0 → (k : ℕ) × (k < t.count) × (Wrong t.period (job_at t.jobs k) ⊎ OverlapsEarlier (job_at t.jobs) k)
      go (inl h) =
          let m = moves (Wrong s.period) (w.0, w.1, h) in
          (m.0, m.1, inl (subst (λ (p : ℕ). Wrong p (job_at t.jobs m.0)) r.period m.2))
      go (inr h) =
          let m = overlaps w.0 w.1 h in
          (m.0, m.1, inr m.2)

module _ {s t : Starts} (r : Rearranged s t) where
  some_same : (test : Job → Bool) → some_job s.jobs s.count test ≡ some_job t.jobs t.count test
  some_same test =
      tells-same (job-tells (λ job. tests (test job)) s.jobs s.count)
      (tells-iff (moves (turned r) (λ (job : Job). test job ≡ true)) (moves r (λ (job : Job). test job ≡ true)) (job-tells (λ job. tests (test job)) t.jobs t.count))

  wrong-same : wrong_starts s ≡ wrong_starts t
  wrong-same = tells-same (starts-tell s) (tells-iff (wrong (turned r)) (wrong r) (starts-tell t))

  busy-same : busy s ≡ busy t
  unfolding busy
  busy-same = fun_ext (λ time. some_same (λ job. runs s.period job time) ∙ ap (λ (p : ℕ). some_job t.jobs t.count (λ job. runs p job time)) r.period)

  critical-same : is_critical s ≡ is_critical t
  unfolding is_critical
  critical-same = fun_ext (λ resource. some_same (λ job. has_bit job.uses resource))

  starts-same : (resource : ℕ) → starts_at s resource ≡ starts_at t resource
  unfolding starts_at
  starts-same resource =
      fun_ext (λ time. some_same (λ job. has_bit job.uses resource && eqb (time % s.period) job.offset) ∙ ap (λ (p : ℕ). some_job t.jobs t.count (λ job. has_bit job.uses resource && eqb (time % p) job.offset)) r.period)

  next-same : (resource time : ℕ) → next_start s resource time ≡ next_start t resource time
  unfolding next_start
  next-same resource time = ap₂ (λ (test : ℕ → Bool) (p : ℕ). first_from test (time + 1) p) (starts-same resource) r.period

  free-same : (resource time : ℕ) → free_time s resource time ≡ free_time t resource time
  unfolding free_time free_ticks is_free
  free-same resource time = ap₂ (λ (b : ℕ → Bool) (next : ℕ). count_below (λ tick. not (b (time + tick))) (next - time)) busy-same (next-same resource time)

  module _ (resources : List Resource) (request : Request) where
    refusal-same : grant_refusal s resources request ≡ grant_refusal t resources request
    unfolding grant_refusal
    refusal-same =
        ap₂ (λ (w : Bool) (b : ℕ → Bool). cond w 20 (cond (some_wrong_holder resources) 20 (cond (b request.time) 21 (cond (wrong_request resources request) 25 (cond (is_held resources request.resource) 22 0))))) wrong-same busy-same

    barred-same : barred s resources request.priority ≡ barred t resources request.priority
    unfolding barred
    barred-same = ap (λ (c : ℕ → Bool). some_below (λ number. bars (resource_at resources number) (c number) request.priority) 8) critical-same

    -- the answers are the same
    pub order-no-part : grant_answer s resources request ≡ grant_answer t resources request
    unfolding grant_answer is_granted fits margin_of
    order-no-part i =
        record {
          refusal = refusal-same i;
          granted = eqb (refusal-same i) 0 && (not (barred-same i) && (not (critical-same i request.resource) || leb request.length (free-same request.resource request.time i)));
          margin = cond (eqb (refusal-same i) 0) (cond (critical-same i request.resource) (pos (free-same request.resource request.time i) -ℤ pos request.length) (pos 0)) (pos 0);
        }

-- nor do the jobs past the count: tables that agree below it get the same answers
pub past-count : (s t : Starts) → s.period ≡ t.period → s.count ≡ t.count → ((place : ℕ) → place < s.count → job_at t.jobs place ≡ job_at s.jobs place)
    → (resources : List Resource) (request : Request) → grant_answer s resources request ≡ grant_answer t resources request
past-count s t period count agree resources request =
    order-no-part
    (record {
      period = period;
      count = count;
      there = λ k. k;
      back = λ k. k;
      there-low = λ k below. below;
      back_low = λ k below. below;
      there_back = λ k below. refl;
      back-there = λ k below. refl;
      same = agree;
    })
    resources request
