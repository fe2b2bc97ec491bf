-- The assured equation as a demand over tasks in order, and what the search over it finds. Assumes nothing.
use Prim.Native.Nat.{ℕ, ◌+◌, ◌-◌, ◌≤◌, ◌<◌}
use mathlib.Core.Path.{◌≡◌, refl, ap, ap₂, ◌∙◌}
use mathlib.Core.Bool.{cond, not, ◌&&◌, and-true, and-false}
use native.Mathlib.Decide.{ℕ_discrete, dec_lt}
use native.Mathlib.Omega.{arith}
use borrow.Author.Tests.{eq-eqb, ne_eqb, lt-ltb, le-ltb}
use lib.Dec.{eqb, ltb}
use Rattle.places.specs.Places.{sum_below}
use Rattle.places.proofs.Agree.{sum-agree}
use Rattle.places.proofs.Summed.{sum-plus}
use Rattle.analysis.specs.Common.Tasks.{Tasks}
use Rattle.analysis.specs.Common.Backups.{others}
use Rattle.analysis.specs.Common.Demand.{runs_of, load_of, demand_of}
use Rattle.analysis.specs.Common.ByRank.{InOrder}
use Rattle.analysis.specs.Common.Search.{least_within}
use Rattle.analysis.specs.Assured.Equation.{is_over, asked_assured}
use Rattle.analysis.specs.Assured.Demand.{assured_demand}
use Rattle.analysis.proofs.Laws.Common.Climbing.{least-agree}
use Rattle.analysis.proofs.Laws.Common.InOrder.{priority_in, run_in, above-tied, between-from}

-- the task at a rank, under a fault priority
module _ (s : Tasks) (order : InOrder s) (i : ℕ) (low : i < s.count) (fault : ℕ) (fits : fault + i ≤ s.count) where
  abbrev last : ℕ
  last = s.count - fault

  -- "each other task with priority above q of i": those before it, and those after it and before the last
  over-tied : (L : ℕ) → sum_below (λ k. cond (others i k && ltb fault (priority_in s k)) (run_in s L k) 0) s.count ≡ runs_of s 0 i L + runs_of s (i + 1) last L
  unfolding runs_of others
  over-tied L =
      sum-agree s.count split
      ∙ sum-plus (λ k. cond (ltb (priority_in s i) (priority_in s k)) (run_in s L k) 0) (λ k. cond (ltb fault (priority_in s k) && ltb (priority_in s k) (priority_in s i)) (run_in s L k) 0) s.count
      ∙ ap₂ ◌+◌ (above-tied s order i low L) (between-from s order i low fault fits (run_in s L))
    where
      split : (k : ℕ) → k < s.count → cond (not (eqb k i) && ltb fault (priority_in s k)) (run_in s L k) 0
          ≡ cond (ltb (priority_in s i) (priority_in s k)) (run_in s L k) 0 + cond (ltb fault (priority_in s k) && ltb (priority_in s k) (priority_in s i)) (run_in s L k) 0
      split k below = go (ℕ_discrete k i) (dec_lt k i)
        where
          go : Dec (k ≡ i) → Dec (k < i) → cond (not (eqb k i) && ltb fault (priority_in s k)) (run_in s L k) 0
              ≡ cond (ltb (priority_in s i) (priority_in s k)) (run_in s L k) 0 + cond (ltb fault (priority_in s k) && ltb (priority_in s k) (priority_in s i)) (run_in s L k) 0
          go (yes e) side =
              let same = ap (priority_in s) e in
              rw (eq-eqb k i e, le-ltb (priority_in s i) (priority_in s k) (omega arith), le-ltb (priority_in s k) (priority_in s i) (omega arith), and-false (ltb fault (priority_in s k))) refl
          go (no other) (yes before) =
              let here = order.priority i low in
              let there = order.priority k below in
              rw (ne_eqb k i other, lt-ltb fault (priority_in s k) (omega arith), lt-ltb (priority_in s i) (priority_in s k) (omega arith), le-ltb (priority_in s k) (priority_in s i) (omega arith)) (omega arith)
          go (no other) (no after) =
              let here = order.priority i low in
              let there = order.priority k below in
              rw (ne_eqb k i other, le-ltb (priority_in s i) (priority_in s k) (omega arith), lt-ltb (priority_in s k) (priority_in s i) (omega arith), and-true (ltb fault (priority_in s k))) (omega arith)

  -- the equation of the assured time, with any N
  pub assured-tied : (N L : ℕ) → demand_of s (assured_demand s i fault N) L ≡ asked_assured s i fault N L
  unfolding demand_of load_of asked_assured is_over
  assured-tied N L = omega (arith, over-tied L)

  -- so the search finds the same
  pub assured-found : (N limit : ℕ) → least_within (demand_of s (assured_demand s i fault N)) 1 limit ≡ least_within (asked_assured s i fault N) 1 limit
  assured-found N limit = least-agree _ (asked_assured s i fault N) 1 limit (λ L above. assured-tied N L)
