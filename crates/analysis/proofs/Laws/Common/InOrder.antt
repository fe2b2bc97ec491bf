-- The tasks above another, or between it and a fault priority, where the tasks stand in order: they are those at ranks. Assumes nothing.
use Prim.Native.Nat.{ℕ, ◌+◌, ◌-◌, ◌*◌, ◌≤◌, ◌<◌}
use mathlib.Core.Path.{◌≡◌, refl, ◌∙◌}
use mathlib.Core.Bool.{cond, ◌&&◌}
use native.Mathlib.Omega.{arith}
use borrow.Author.Tests.{lt-ltb, le-ltb}
use lib.Dec.{ltb}
use Rattle.places.specs.Places.{sum_below}
use Rattle.places.proofs.Summed.{sum-from}
use Rattle.places.proofs.Gathered.{sum-until}
use Rattle.analysis.specs.Common.Rounding.{up}
use Rattle.analysis.specs.Common.Tasks.{Tasks}
use Rattle.analysis.specs.Common.Demand.{runs_of}
use Rattle.analysis.specs.Common.ByRank.{InOrder}

-- the priority of the task at a rank, and the time that it runs in a length
abbrev pub priority_in : Tasks → ℕ → ℕ
priority_in s k = (s.at k).priority

abbrev pub run_in : Tasks → ℕ → ℕ → ℕ
run_in s L k = up L (s.at k).period * (s.at k).cost

-- the task at a rank
module _ (s : Tasks) (order : InOrder s) (i : ℕ) (low : i < s.count) where
  -- "with a priority above p": those before it
  pub above-tied : (L : ℕ) → sum_below (λ k. cond (ltb (priority_in s i) (priority_in s k)) (run_in s L k) 0) s.count ≡ runs_of s 0 i L
  unfolding runs_of
  above-tied L =
      let here = order.priority i low in
      sum-until f f i s.count (omega arith) (λ k before. refl) (λ k after below. rw (le-ltb (priority_in s i) (priority_in s k) (omega (arith, order.priority k below))) refl)
      ∙ sum-from f (run_in s L) 0 i (λ k none below. absurd (omega arith)) (λ k after before. rw (lt-ltb (priority_in s i) (priority_in s k) (omega (arith, order.priority k (omega arith)))) refl)
    where
      f : ℕ → ℕ
      f k = cond (ltb (priority_in s i) (priority_in s k)) (run_in s L k) 0

  -- under a fault priority
  module _ (fault : ℕ) (fits : fault + i ≤ s.count) where
    -- the tasks above its fault priority are those before this rank
    abbrev last : ℕ
    last = s.count - fault

    -- the tasks above q and below p are those after it and before the last
    pub between-from : (g : ℕ → ℕ) → sum_below (λ k. cond (ltb fault (priority_in s k) && ltb (priority_in s k) (priority_in s i)) (g k) 0) s.count ≡ sum_below (λ k. g (i + 1 + k)) (last - (i + 1))
    between-from g =
        let here = order.priority i low in
        sum-until between between last s.count (omega arith) (λ k before. refl) (λ k after below. rw (le-ltb fault (priority_in s k) (omega (arith, order.priority k below))) refl)
        ∙ sum-from between g (i + 1) last
        (λ k before below. rw (lt-ltb fault (priority_in s k) (omega (arith, order.priority k (omega arith))), le-ltb (priority_in s k) (priority_in s i) (omega (arith, order.priority k (omega arith)))) refl)
        (λ k after below. rw (lt-ltb fault (priority_in s k) (omega (arith, order.priority k (omega arith))), lt-ltb (priority_in s k) (priority_in s i) (omega (arith, order.priority k (omega arith)))) refl)
      where
        between : ℕ → ℕ
        between k = cond (ltb fault (priority_in s k) && ltb (priority_in s k) (priority_in s i)) (g k) 0
