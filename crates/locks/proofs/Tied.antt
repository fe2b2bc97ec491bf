-- The next start and the free time of a good table at a time when no started job runs: tick by tick they are what the distances give. Assumes nothing.
use Prim.Native.Nat.{ℕ, ◌+◌, ◌-◌, ◌%◌, ◌≤◌, ◌<◌}
use mathlib.Core.Path.{◌≡◌, refl, sym, ap, ◌∙◌, subst}
use mathlib.Core.Bool.{Bool, true, false, cond, not}
use mathlib.Core.Logic.{⊎_elim}
use mathlib.Core.List.{List}
use native.Mathlib.Omega.{arith}
use lib.Dec.{ltb}
use Rattle.places.specs.Places.{some_below, count_below, sum_below}
use Rattle.places.specs.Search.{first_from}
use Rattle.places.proofs.Tells.{Tells, told, denied, shown, eqb_tells, and-tells, tests}
use Rattle.places.proofs.Agree.{some-agree, count-agree}
use Rattle.places.proofs.Some.{some-tells}
use Rattle.places.proofs.Largest.{least-low, least-one}
use Rattle.places.proofs.Search.{first_some}
use Rattle.locks.specs.declared.Job.{Job}
use Rattle.locks.specs.declared.Starts.{Starts}
use Rattle.locks.specs.Bits.{has_bit}
use Rattle.locks.specs.Jobs.{job_at, some_job, within, runs, busy, is_critical, starts_at}
use Rattle.locks.specs.Free.{next_start, is_free, free_ticks, free_time}
use Rattle.locks.specs.Distances.{distance, nearest, between}
use Rattle.locks.proofs.Given.{GoodStarts, within-tells}
use Rattle.locks.proofs.Cycle.{distance-inside, runs-later, starts-later}
use Rattle.locks.proofs.Ticks.{free-before}

-- `some_job` tells that there is a job below the count of which the test's proposition holds
pub job-tells : {P : Job → Type 0} {test : Job → Bool} → ((job : Job) → Tells (P job) (test job)) → (jobs : List Job) (count : ℕ) → Tells ((place : ℕ) × (place < count) × P (job_at jobs place)) (some_job jobs count test)
unfolding some_job
job-tells each jobs count = some-tells (λ place. each (job_at jobs place)) count

-- `starts_at` tells that a job that uses the resource starts at the time
pub starts-at-tells : (s : Starts) (resource time : ℕ)
    → Tells ((place : ℕ) × (place < s.count) × ((has_bit (job_at s.jobs place).uses resource ≡ true) × (time % s.period ≡ (job_at s.jobs place).offset))) (starts_at s resource time)
unfolding starts_at
starts-at-tells s resource time = job-tells (λ job. and-tells (tests (has_bit job.uses resource)) (eqb_tells (time % s.period) job.offset)) s.jobs s.count

module _ (s : Starts) (time : ℕ) (good : GoodStarts s) (idle : busy s time ≡ false) where
  abbrev job : ℕ → Job
  job place = job_at s.jobs place

  -- where the time stands in its period, and how far each job's next start is
  abbrev phase : ℕ
  phase = time % s.period

  abbrev start : ℕ → ℕ
  start place = distance s.period phase (job place).offset

  abbrev long : ℕ → ℕ
  long place = (job place).length

  -- no job runs at the time
  idle-at : (place : ℕ) → place < s.count → within (job place).offset (job place).length phase ≡ false
  unfolding busy runs
  idle-at place below = go (within (job place).offset (job place).length phase) refl
    where
      go : (b : Bool) → within (job place).offset (job place).length phase ≡ b → b ≡ false
      go true is = absurd (denied (job-tells (λ other. tests (within other.offset other.length phase)) s.jobs s.count) idle (place, below, is))
      go false is = refl

  module _ (place : ℕ) (below : place < s.count) where
    pub start-inside : (0 < start place) × (start place + long place ≤ s.period)
    start-inside = distance-inside s.period time (job place).offset (job place).length good.some (good.inside place below) (good.long place below) (idle-at place below)

    pub runs-at : (k : ℕ) → k ≤ s.period → runs s.period (job place) (time + k) ≡ within (start place) (long place) k
    unfolding runs
    runs-at k low = runs-later s.period time (job place).offset (job place).length good.some (good.inside place below) (good.long place below) (idle-at place below) k low

    starts-exactly : (k : ℕ) → k ≤ s.period → 0 < k → ((time + k) % s.period ≡ (job place).offset → k ≡ start place) × (k ≡ start place → (time + k) % s.period ≡ (job place).offset)
    starts-exactly k low positive = starts-later s.period time (job place).offset (job place).length good.some (good.inside place below) (good.long place below) (idle-at place below) k low positive

  -- k ticks on, some job runs exactly if k lies in some job's ticks
  busy-at : (k : ℕ) → k ≤ s.period → busy s (time + k) ≡ some_below (λ place. within (start place) (long place) k) s.count
  unfolding busy some_job
  busy-at k low = some-agree s.count (λ place below. runs-at place below k low)

  -- no two jobs take one tick
  apart : (tick j k : ℕ) → j < s.count → k < s.count → within (start j) (long j) tick ≡ true → within (start k) (long k) tick ≡ true → j ≡ k
  unfolding runs
  apart tick j k low high one other =
      let early : tick ≤ s.period = omega (arith, told (within-tells (start j) (long j) tick) one, start-inside j low) in
      let first = told (within-tells (job j).offset (job j).length ((time + tick) % s.period)) (runs-at j low tick early ∙ one) in
      let second = told (within-tells (job k).offset (job k).length ((time + tick) % s.period)) (runs-at k high tick early ∙ other) in
      good.apart ((time + tick) % s.period) j k low high (omega arith, omega arith) (omega arith, omega arith)

  module _ (resource : ℕ) (critical : is_critical s resource ≡ true) where
    -- the distance of the nearest start that uses the resource
    abbrev near : ℕ
    near = nearest s.period phase resource s.jobs s.count

    abbrev Uses : ℕ → Type 0
    Uses place = has_bit (job place).uses resource ≡ true

    -- no job that uses it starts nearer
    pub near-low : (place : ℕ) → place < s.count → Uses place → near ≤ start place
    unfolding nearest
    near-low place below uses = least-low s.period (λ k. has_bit (job k).uses resource) start place s.count below uses

    -- and one starts there
    pub near-job : (place : ℕ) × (place < s.count) × Uses place × (near ≡ start place)
    unfolding is_critical nearest
    near-job = ⊎_elim (λ e. absurd (far e)) (λ w. w) (least-one s.period (λ k. has_bit (job k).uses resource) start s.count)
      where
        some : (place : ℕ) × (place < s.count) × Uses place
        some = told (job-tells (λ other. tests (has_bit other.uses resource)) s.jobs s.count) critical

        far : near ≡ s.period → ⊥
        far e = omega (arith, near-low some.0 some.1 some.2, start-inside some.0 some.1, good.long some.0 some.1, e)

    pub near-inside : (0 < near) × (near < s.period)
    near-inside =
        let inside = start-inside near-job.0 near-job.1 in
        let some = good.long near-job.0 near-job.1 in
        (omega (arith, near-job.3), omega (arith, near-job.3))

    -- "the next start that uses it" is the nearest
    pub next-tied : next_start s resource time ≡ time + near
    unfolding next_start
    next-tied =
        let test = starts_at s resource in
        let here = shown (starts-at-tells s resource (time + near)) (near-job.0, near-job.1, (near-job.2, (starts-exactly near-job.0 near-job.1 near (omega (arith, near-inside)) near-inside.0).1 near-job.3)) in
        let first = first_some test s.period (time + 1) (time + near) (omega (arith, near-inside)) (omega (arith, near-inside)) here in
        go (first_from test (time + 1) s.period) first.0 first.1 (told (starts-at-tells s resource (first_from test (time + 1) s.period)) first.2)
      where
        go : (first : ℕ) → time + 1 ≤ first → first ≤ time + near → (place : ℕ) × (place < s.count) × (Uses place × (first % s.period ≡ (job place).offset)) → first ≡ time + near
        go first low high w =
            let k = first - time in
            let same : time + k ≡ first = omega arith in
            let at = (starts-exactly w.0 w.1 k (omega (arith, near-inside)) (omega arith)).0 (ap (λ (x : ℕ). x % s.period) same ∙ w.2.1) in
            omega (arith, near-low w.0 w.1 w.2.0)

    -- the free ticks before the next start and the lengths of the jobs that start before it are its distance
    pub free-tied : free_time s resource time + between s.period phase near s.jobs s.count ≡ near
    unfolding free_time free_ticks is_free between
    free-tied =
        let j = near-job.0 in
        let ticks : next_start s resource time - time ≡ near = omega (arith, next-tied) in
        let same : count_below (λ tick. not (busy s (time + tick))) near ≡ count_below (λ tick. not (some_below (λ place. within (start place) (long place) tick) s.count)) near = count-agree near (λ k below. ap not (busy-at k (omega (arith, near-inside)))) in
        let law = free-before start long s.count apart j near-job.1 (good.long j near-job.1) in
        ap (λ (n : ℕ). n + sum_below (λ k. cond (ltb (start k) near) (long k) 0) s.count) (ap (count_below (λ tick. not (busy s (time + tick)))) ticks ∙ same)
        ∙ subst (λ (m : ℕ). count_below (λ tick. not (some_below (λ place. within (start place) (long place) tick) s.count)) m + sum_below (λ k. cond (ltb (start k) m) (long k) 0) s.count ≡ m) (sym near-job.3) law
