-- The runs of the tasks of some ranks, and the demand over tasks in order: what is already paid has been asked, and what it asks of a length of 1. Assumes nothing.
use Prim.Native.Nat.{ℕ, zero, suc, ◌+◌, ◌-◌, ◌*◌, ◌≤◌, ◌<◌}
use mathlib.Core.Path.{◌≡◌, refl, ap, ap₂, ◌∙◌}
use native.Mathlib.Nat.{one-mul, mul-le-mul_right}
use native.Mathlib.Omega.{arith}
use Rattle.places.specs.Places.{sum_below}
use Rattle.places.proofs.Agree.{sum-agree}
use Rattle.places.proofs.Summed.{sum-rises}
use Rattle.analysis.specs.Common.Rounding.{up}
use Rattle.analysis.specs.Common.Tasks.{Tasks}
use Rattle.analysis.specs.Common.Supplier.{supplier_of}
use Rattle.analysis.specs.Common.Demand.{Demand, runs_of, load_of, demand_of}
use Rattle.analysis.specs.Common.ByRank.{InOrder, Sought}
use Rattle.analysis.proofs.Laws.Common.Rounding.{up-rises, up-some, up_one}

-- the first place and the others
sum_first : (f : ℕ → ℕ) (n : ℕ) → sum_below f (suc n) ≡ f 0 + sum_below (λ k. f (suc k)) n
unfolding sum_below
sum_first f zero = omega arith
sum_first f (suc n) = omega (arith, sum_first f n)

module _ (s : Tasks) (from until : ℕ) where
  -- the tasks of some ranks run no less in a longer length
  pub runs-rise : (a b : ℕ) → a ≤ b → runs_of s from until a ≤ runs_of s from until b
  unfolding runs_of
  runs-rise a b h = sum-rises (until - from) (λ k below. mul-le-mul_right (s.at (from + k)).cost (up-rises (s.at (from + k)).period h))

  -- the task of the first rank and those of the others
  pub runs-first : (L : ℕ) → from < until → runs_of s from until L ≡ up L (s.at from).period * (s.at from).cost + runs_of s (from + 1) until L
  unfolding runs_of
  runs-first L below =
      let one : until - from ≡ suc (until - (from + 1)) = omega arith in
      let here : from + 0 ≡ from = omega arith in
      ap (sum_below (λ k. run (from + k))) one
      ∙ sum_first (λ k. run (from + k)) (until - (from + 1))
      ∙ ap₂ ◌+◌ (ap run here) (sum-agree (until - (from + 1)) (λ k low. ap run (next k)))
    where
      run : ℕ → ℕ
      run k = up L (s.at k).period * (s.at k).cost

      next : (k : ℕ) → from + suc k ≡ from + 1 + k
      next k = omega arith

  -- no rank is between
  pub no-runs : (L : ℕ) → until ≤ from → runs_of s from until L ≡ 0
  unfolding runs_of sum_below
  no-runs L none =
      let empty : until - from ≡ 0 = omega arith in
      rw empty refl

-- the demand rises with the length
pub demand-rises : (s : Tasks) (d : Demand) (a b : ℕ) → a ≤ b → demand_of s d a ≤ demand_of s d b
unfolding demand_of load_of supplier_of
demand-rises s d a b h =
    let faults : up a s.interval * d.backup ≤ up b s.interval * d.backup = mul-le-mul_right d.backup (up-rises s.interval h) in
    let supplier : up a s.round * (s.round - s.share) ≤ up b s.round * (s.round - s.share) = mul-le-mul_right (s.round - s.share) (up-rises s.round h) in
    omega (arith, runs-rise s 0 d.rank a b h, runs-rise s (d.rank + 1) d.until a b h, faults, supplier)

module _ (s : Tasks) (order : InOrder s) (d : Demand) (sought : Sought s d) where
  -- a length that is not 0 is asked one backup at least, which is all that may be paid
  pub paid-asked : (L : ℕ) → 1 ≤ L → d.paid ≤ load_of s d L
  unfolding load_of
  paid-asked L some =
      let one : 1 * d.backup ≤ up L s.interval * d.backup = mul-le-mul_right d.backup (up-some L s.interval order.often some) in
      omega (arith, one, sought.paid)

  -- a length of 1 has one period of each task, one fault and one round
  pub demand-one : demand_of s d 1 ≡ d.base + (runs_of s 0 d.rank 1 + runs_of s (d.rank + 1) d.until 1 + d.backup + (s.round - s.share)) - d.paid
  unfolding demand_of load_of supplier_of
  demand-one =
      let fault : up 1 s.interval * d.backup ≡ d.backup = ap (λ (n : ℕ). n * d.backup) (up_one s.interval order.often) ∙ one-mul d.backup in
      let round : up 1 s.round * (s.round - s.share) ≡ s.round - s.share = ap (λ (n : ℕ). n * (s.round - s.share)) (up_one s.round order.round) ∙ one-mul (s.round - s.share) in
      omega (arith, fault, round)
