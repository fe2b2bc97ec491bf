-- What a start table that is not refused is known for. Assumes nothing.
use Prim.Native.Nat.{ℕ, ◌+◌, ◌≤◌, ◌<◌}
use mathlib.Core.Path.{◌≡◌}
use mathlib.Core.Bool.{false}
use mathlib.Core.Logic.{◌⊎◌, inl, inr}
use native.Mathlib.Decide.{dec_lt}
use native.Mathlib.Omega.{arith}
use Rattle.places.proofs.Tells.{Tells, denied, ltb-tells, leb_tells, eqb_tells, or-tells, and-tells}
use Rattle.places.proofs.Some.{some-tells}
use Rattle.locks.specs.declared.Job.{Job}
use Rattle.locks.specs.declared.Starts.{Starts}
use Rattle.locks.specs.Jobs.{job_at, within}
use Rattle.locks.specs.Rules.{is_wrong, overlap, overlaps_earlier, wrong_starts}
use Rattle.locks.specs.Broken.{Covers}

-- `within` tells that the tick lies from the start up to but not at the end
pub within-tells : (start length tick : ℕ) → Tells ((start ≤ tick) × (tick < start + length)) (within start length tick)
unfolding within
within-tells start length tick = and-tells (leb_tells start tick) (ltb-tells tick (start + length))

-- two jobs overlap where each starts before the other ends
abbrev pub Overlap : Job → Job → Type 0
Overlap job other = (job.offset < other.offset + other.length) × (other.offset < job.offset + job.length)

pub overlap-tells : (job other : Job) → Tells (Overlap job other) (overlap job other)
unfolding overlap
overlap-tells job other = and-tells (ltb-tells job.offset (other.offset + other.length)) (ltb-tells other.offset (job.offset + job.length))

-- a job that is wrong by itself
abbrev pub Wrong : ℕ → Job → Type 0
Wrong period job = (job.length ≡ 0) ⊎ (period < job.offset + job.length)

pub wrong-tells : (period : ℕ) (job : Job) → Tells (Wrong period job) (is_wrong period job)
unfolding is_wrong
wrong-tells period job = or-tells (eqb_tells job.length 0) (ltb-tells period (job.offset + job.length))

-- the jobs at two places overlap
abbrev pub OverlapsEarlier : (ℕ → Job) → ℕ → Type 0
OverlapsEarlier job place = (earlier : ℕ) × (earlier < place) × Overlap (job earlier) (job place)

-- what is wrong with a start table
abbrev pub WrongStarts : Starts → Type 0
WrongStarts s =
    (8 < s.count) ⊎ ((s.period ≡ 0) ⊎ ((place : ℕ) × (place < s.count) × (Wrong s.period (job_at s.jobs place) ⊎ OverlapsEarlier (job_at s.jobs) place)))

pub starts-tell : (s : Starts) → Tells (WrongStarts s) (wrong_starts s)
unfolding wrong_starts overlaps_earlier
starts-tell s =
    or-tells (ltb-tells 8 s.count)
    (or-tells (eqb_tells s.period 0)
    (some-tells (λ place. or-tells (wrong-tells s.period (job_at s.jobs place)) (some-tells (λ earlier. overlap-tells (job_at s.jobs earlier) (job_at s.jobs place)) place)) s.count))

-- a good start table: "up to eight jobs", a period, "don't overlap, and each ends within the period"
pub record GoodStarts (s : Starts) : Type 0 where
  pub few : s.count ≤ 8
  pub some : 0 < s.period
  pub long : (place : ℕ) → place < s.count → 0 < (job_at s.jobs place).length
  pub inside : (place : ℕ) → place < s.count → (job_at s.jobs place).offset + (job_at s.jobs place).length ≤ s.period
  pub apart : (tick j k : ℕ) → j < s.count → k < s.count → Covers 0 (job_at s.jobs j) tick → Covers 0 (job_at s.jobs k) tick → j ≡ k

pub good-starts : (s : Starts) → wrong_starts s ≡ false → GoodStarts s
good-starts s e =
    record {
      few = omega (arith, few);
      some = omega (arith, some);
      long = λ place below. omega (arith, right place below);
      inside = λ place below. omega (arith, right place below);
      apart = λ tick j k low high one other. go tick j k low high one other (dec_lt j k) (dec_lt k j);
    }
  where
    none : WrongStarts s → ⊥
    none = denied (starts-tell s) e

    few : 8 < s.count → ⊥
    few h = none (inl h)

    some : s.period ≡ 0 → ⊥
    some z = none (inr (inl z))

    right : (place : ℕ) → place < s.count → ((job_at s.jobs place).length ≡ 0 → ⊥) × (s.period < (job_at s.jobs place).offset + (job_at s.jobs place).length → ⊥)
    right place below = (λ z. none (inr (inr (place, below, inl (inl z)))), λ h. none (inr (inr (place, below, inl (inr h)))))

    go : (tick j k : ℕ) → j < s.count → k < s.count → Covers 0 (job_at s.jobs j) tick → Covers 0 (job_at s.jobs k) tick → Dec (j < k) → Dec (k < j) → j ≡ k
    go tick j k low high one other (yes h) w = absurd (none (inr (inr (k, high, inr (j, h, (omega arith, omega arith))))))
    go tick j k low high one other (no n) (yes h) = absurd (none (inr (inr (j, low, inr (k, h, (omega arith, omega arith))))))
    go tick j k low high one other (no n) (no m) = omega arith
