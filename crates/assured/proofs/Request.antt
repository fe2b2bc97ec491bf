-- Request 3's equation where it is safe: a task whose N by it is at most B plus the costs of the tasks between q and p, and which is on time by it, has an assured time, no later than its response. Assumes nothing.
use Prim.Native.Nat.{ℕ, ◌+◌, ◌-◌, ◌*◌, ◌≤◌, ◌<◌}
use mathlib.Core.Path.{◌≡◌, refl, ap, ◌∙◌}
use mathlib.Core.Bool.{Bool, true, false, cond, not, ◌&&◌, and-false, and-true}
use mathlib.Core.Logic.{◌⊎◌, inl, inr}
use native.Mathlib.Nat.{mul-le-mul_left}
use native.Mathlib.Decide.{ℕ_discrete, dec_lt}
use native.Mathlib.Omega.{arith}
use borrow.Author.Tests.{eq-eqb, ne_eqb, lt-ltb, le-ltb, le-leb}
use lib.Dec.{eqb, leb, ltb}
use Rattle.places.specs.Places.{sum_below}
use Rattle.places.proofs.Tells.{Tells, holds, fails}
use Rattle.places.proofs.Agree.{sum-agree}
use Rattle.places.proofs.Summed.{sum-plus}
use Rattle.places.proofs.Largest.{most-part, most-within}
use Rattle.analysis.specs.Common.Rounding.{up}
use Rattle.analysis.specs.Common.Tasks.{Tasks}
use Rattle.analysis.specs.Common.Backups.{others, everyone, backup_of, largest_backup, backup_from_fault}
use Rattle.analysis.specs.Published.Equations.{asked_itself, is_between, struck_itself}
use Rattle.analysis.specs.Common.Supplier.{supplier_of}
use Rattle.analysis.specs.Published.Response.{time_elsewhere, time_itself, response_within, response_time}
use Rattle.analysis.specs.Assured.Equation.{asked_assured, is_over, backup_ahead, assured_equation}
use Rattle.analysis.specs.Assured.Time.{assured_within, assured_time}
use Rattle.analysis.proofs.Laws.Common.Rounding.{up-some, first-paid}
use Rattle.analysis.proofs.Laws.Common.Easier.{NoLater, least-easier}
use Rattle.analysis.proofs.Laws.Published.Larger.{late-elsewhere, late-itself, on-time}
use Rattle.analysis.proofs.Laws.Assured.Raised.{ahead-tells}

-- the costs of the tasks between q and p of a task
unfoldable pub costs_between : Tasks → ℕ → ℕ
costs_between s i = sum_below (λ k. cond (is_between s i (s.fault i) k) (s.at k).cost 0) s.count

module _ (s : Tasks) (i : ℕ) (below : i < s.count) (some : 1 ≤ s.interval) (under : s.fault i ≤ (s.at i).priority) (apart : (k : ℕ) → k < s.count → (s.at k).priority ≡ (s.at i).priority → k ≡ i) where
  -- N of the assured equation is no larger than that of request 3: who is ahead has a fault priority no lower
  ahead-less : backup_ahead s i ≤ backup_from_fault s i
  unfolding backup_ahead backup_from_fault largest_backup backup_of everyone
  ahead-less = most-within _ s.count _ (λ k h. omega (arith, part k (ahead-tells s i k), most-part (λ n. cond (leb (s.fault i) (s.fault n)) (s.at n).backup 0) s.count k h))
    where
      level : (k : ℕ) → (k ≡ i) ⊎ ((s.fault i < s.fault k) ⊎ ((s.fault k ≡ s.fault i) × ((s.at i).priority < (s.at k).priority))) → s.fault i ≤ s.fault k
      level k (inl e) = omega (arith, ap s.fault e)
      level k (inr (inl h)) = omega arith
      level k (inr (inr w)) = omega (arith, w.0)

      part : (k : ℕ) {b : Bool} → Tells ((k ≡ i) ⊎ ((s.fault i < s.fault k) ⊎ ((s.fault k ≡ s.fault i) × ((s.at i).priority < (s.at k).priority)))) b
          → cond b (s.at k).backup 0 ≤ cond (leb (s.fault i) (s.fault k)) (s.at k).backup 0
      part k (holds why) = simp (le-leb (s.fault i) (s.fault k) (level k why)) (omega arith)
      part k (fails n) = omega arith

  -- the runs of the tasks over q are those above p and those between, without "1 +"
  abbrev run : ℕ → ℕ → ℕ
  run L k = up L (s.at k).period * (s.at k).cost

  over-split : (L : ℕ) → sum_below (λ k. cond (is_over s i (s.fault i) k) (run L k) 0) s.count
      ≡ sum_below (λ k. cond (ltb (s.at i).priority (s.at k).priority) (run L k) 0) s.count + sum_below (λ k. cond (is_between s i (s.fault i) k) (run L k) 0) s.count
  unfolding is_over others is_between
  over-split L =
      sum-agree s.count split
      ∙ sum-plus (λ k. cond (ltb (s.at i).priority (s.at k).priority) (run L k) 0) (λ k. cond (ltb (s.fault i) (s.at k).priority && ltb (s.at k).priority (s.at i).priority) (run L k) 0) s.count
    where
      split : (k : ℕ) → k < s.count → cond (not (eqb k i) && ltb (s.fault i) (s.at k).priority) (run L k) 0
          ≡ cond (ltb (s.at i).priority (s.at k).priority) (run L k) 0 + cond (ltb (s.fault i) (s.at k).priority && ltb (s.at k).priority (s.at i).priority) (run L k) 0
      split k h = go (ℕ_discrete k i) (dec_lt (s.at i).priority (s.at k).priority)
        where
          go : Dec (k ≡ i) → Dec ((s.at i).priority < (s.at k).priority) → cond (not (eqb k i) && ltb (s.fault i) (s.at k).priority) (run L k) 0
              ≡ cond (ltb (s.at i).priority (s.at k).priority) (run L k) 0 + cond (ltb (s.fault i) (s.at k).priority && ltb (s.at k).priority (s.at i).priority) (run L k) 0
          go (yes e) side =
              let same = ap (λ (n : ℕ). (s.at n).priority) e in
              rw (eq-eqb k i e, le-ltb (s.at i).priority (s.at k).priority (omega arith), le-ltb (s.at k).priority (s.at i).priority (omega arith), and-false (ltb (s.fault i) (s.at k).priority)) refl
          go (no other) (yes above) =
              rw (ne_eqb k i other, lt-ltb (s.fault i) (s.at k).priority (omega arith), lt-ltb (s.at i).priority (s.at k).priority above, le-ltb (s.at k).priority (s.at i).priority (omega arith)) (omega arith)
          go (no other) (no under-it) =
              let differ : (s.at k).priority ≡ (s.at i).priority → ⊥ = λ e. other (apart k h e) in
              rw (ne_eqb k i other, le-ltb (s.at i).priority (s.at k).priority (omega arith), lt-ltb (s.at k).priority (s.at i).priority (omega arith), and-true (ltb (s.fault i) (s.at k).priority)) (omega arith)

  -- those between run once more in request 3's equation, which is their costs
  between_split : (L : ℕ) → sum_below (λ k. cond (is_between s i (s.fault i) k) ((1 + up L (s.at k).period) * (s.at k).cost) 0) s.count ≡ costs_between s i + sum_below (λ k. cond (is_between s i (s.fault i) k) (run L k) 0) s.count
  unfolding costs_between
  between_split L =
      sum-agree s.count (λ k h. split k (is_between s i (s.fault i) k))
      ∙ sum-plus (λ k. cond (is_between s i (s.fault i) k) (s.at k).cost 0) (λ k. cond (is_between s i (s.fault i) k) (run L k) 0) s.count
    where
      split : (k : ℕ) (b : Bool) → cond b ((1 + up L (s.at k).period) * (s.at k).cost) 0 ≡ cond b (s.at k).cost 0 + cond b (run L k) 0
      split k true = omega arith
      split k false = refl

  -- "a task whose N of request 3 is at most B plus the costs of the tasks between q and p"
  module _ (small : backup_from_fault s i ≤ (s.at i).backup + costs_between s i) where
    assured-less : (L : ℕ) → 1 ≤ L → assured_equation s i L ≤ struck_itself s i L
    unfolding asked_assured is_over supplier_of assured_equation asked_itself is_between struck_itself
    assured-less L long =
        omega (arith, over-split L, between_split L, small, mul-le-mul_left (up L s.interval) ahead-less, first-paid (up L s.interval) (backup_from_fault s i) (up-some L s.interval some long))

    assured-sooner : (limit : ℕ) → NoLater (assured_within limit s i) (time_itself limit s i)
    unfolding assured_within time_itself
    assured-sooner limit = least-easier (assured_equation s i) (struck_itself s i) limit assured-less

    -- has an assured time wherever it has a response time, and no later
    pub assured-no-later : NoLater (assured_time s i) (response_time s i)
    unfolding assured_time response_time
    assured-no-later there = go (ℕ_discrete (time_elsewhere 65535 s i) 0) (ℕ_discrete (time_itself 65535 s i) 0)
      where
        go : Dec (time_elsewhere 65535 s i ≡ 0) → Dec (time_itself 65535 s i ≡ 0) → (1 ≤ assured_within 65535 s i) × (assured_within 65535 s i ≤ response_within 65535 s i)
        go (yes z) side = absurd (omega (arith, late-elsewhere 65535 s i z))
        go (no a) (yes z) = absurd (omega (arith, late-itself 65535 s i a z))
        go (no a) (no b) =
            let sooner = assured-sooner 65535 (omega arith) in
            let whole = on-time 65535 s i a b in
            (omega arith, omega arith)
