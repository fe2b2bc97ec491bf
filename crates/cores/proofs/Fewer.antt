-- Fewer tasks are done no later: where some tasks of another, in its order and with each q equal to p in both, are all that there is, they pass if the others do. Assumes nothing.
use Prim.Native.Nat.{ℕ, ◌+◌, ◌-◌, ◌*◌, ◌≤◌, ◌<◌}
use mathlib.Core.Path.{◌≡◌, refl, sym, ap₂, subst, ◌∙◌}
use mathlib.Core.Bool.{Bool, true, false, cond, ◌&&◌, ◌||◌}
use native.Mathlib.Nat.{mul-le-mul_left}
use native.Mathlib.Decide.{ℕ_discrete, dec_lt}
use native.Mathlib.Omega.{arith}
use borrow.Author.Tests.{ne_eqb, eqb-false, le-ltb, ltb-false}
use lib.Dec.{eqb, ltb}
use Rattle.places.specs.Places.{sum_below}
use Rattle.places.proofs.Tells.{neither, Tells, holds, fails, ltb-tells, leb_tells, eqb_tells, not-tells, and-tells}
use Rattle.places.proofs.Agree.{sum-agree}
use Rattle.places.proofs.Onto.{Rising}
use Rattle.places.proofs.Summed.{sum-along, sum-none}
use Rattle.places.proofs.Largest.{most-along}
use Rattle.analysis.specs.Common.Rounding.{up}
use Rattle.analysis.specs.Common.Tasks.{Tasks}
use Rattle.analysis.specs.Common.Backups.{others, everyone, backup_of, largest_backup, backup_elsewhere, backup_from_fault}
use Rattle.analysis.specs.Published.Equations.{asked_elsewhere, asked_itself, is_between, struck_elsewhere, struck_itself}
use Rattle.analysis.specs.Common.Supplier.{supplier_of}
use Rattle.analysis.specs.Published.Response.{time_elsewhere, time_itself, response_within, response_time, late, passes}
use Rattle.analysis.specs.Common.Entries.{is_late}
use Rattle.analysis.proofs.Demands.{passes-exactly}
use Rattle.analysis.proofs.Laws.Common.Easier.{NoLater, least-easier}
use Rattle.analysis.proofs.Laws.Published.Larger.{late-elsewhere, late-itself, on-time}

-- the tasks of one are those of the other at some places, in its order of records and of priorities, and each q is equal to p in both
pub record Fewer (s t : Tasks) (place : ℕ → ℕ) : Type 0 where
  pub places : Rising s.count t.count place
  pub interval : s.interval ≡ t.interval
  pub round : s.round ≡ t.round
  pub share : s.share ≡ t.share
  pub cost : (j : ℕ) → j < s.count → (s.at j).cost ≡ (t.at (place j)).cost
  pub backup : (j : ℕ) → j < s.count → (s.at j).backup ≡ (t.at (place j)).backup
  pub deadline : (j : ℕ) → j < s.count → (s.at j).deadline ≡ (t.at (place j)).deadline
  pub period : (j : ℕ) → j < s.count → (s.at j).period ≡ (t.at (place j)).period
  pub above : (i j : ℕ) → i < s.count → j < s.count → (s.at i).priority < (s.at j).priority → (t.at (place i)).priority < (t.at (place j)).priority
  pub not-below : (i j : ℕ) → i < s.count → j < s.count → (s.at i).priority ≤ (s.at j).priority → (t.at (place i)).priority ≤ (t.at (place j)).priority
  pub raised : (j : ℕ) → j < s.count → s.fault j ≡ (s.at j).priority
  pub raised-there : (j : ℕ) → j < s.count → t.fault (place j) ≡ (t.at (place j)).priority

-- where a test that holds has the other hold, what it picks is no larger
picked-less : {P Q : Type 0} {a b : Bool} (x y : ℕ) → Tells P a → Tells Q b → (P → Q) → x ≡ y → cond a x 0 ≤ cond b y 0
picked-less x y (holds p) (holds q) f e = omega arith
picked-less x y (holds p) (fails n) f e = absurd (n (f p))
picked-less x y (fails m) t f e = omega arith

module _ (s t : Tasks) (place : ℕ → ℕ) (fewer : Fewer s t place) where
  -- two tasks are at two places
  apart : (i j : ℕ) → i < s.count → j < s.count → (j ≡ i → ⊥) → place j ≡ place i → ⊥
  apart i j low-i low-j other e = go (dec_lt i j)
    where
      go : Dec (i < j) → ⊥
      go (yes lt) = omega (arith, fewer.places.rises i j lt low-j)
      go (no ge) = omega (arith, fewer.places.rises j i (omega arith) low-i)

  module _ (i : ℕ) (low : i < s.count) where
    -- the tasks above ask no more
    abbrev above_of : Tasks → ℕ → ℕ → ℕ → ℕ
    above_of tasks k L j = cond (ltb (tasks.at k).priority (tasks.at j).priority) (up L (tasks.at j).period * (tasks.at j).cost) 0

    above-less : (L : ℕ) → sum_below (above_of s i L) s.count ≤ sum_below (above_of t (place i) L) t.count
    above-less L =
        sum-along (above_of s i L) (above_of t (place i) L) place s.count t.count fewer.places
        (λ j h. picked-less _ _ (ltb-tells _ _) (ltb-tells _ _) (fewer.above i j low h) (ap₂ (λ (p c : ℕ). up L p * c) (fewer.period j h) (fewer.cost j h)))

    -- no task lies between a q and a p that are equal
    between_none : (L : ℕ) → sum_below (λ k. cond (is_between s i (s.fault i) k) ((1 + up L (s.at k).period) * (s.at k).cost) 0) s.count ≡ 0
    unfolding is_between
    between_none L = sum-agree s.count (λ k h. go (s.at k).priority _) ∙ sum-none (λ k. 0) s.count (λ k h. refl)
      where
        go : (p x : ℕ) → cond (ltb (s.fault i) p && ltb p (s.at i).priority) x 0 ≡ 0
        go p x = pick (ltb (s.fault i) p) (ltb p (s.at i).priority) (ltb-tells (s.fault i) p) (ltb-tells p (s.at i).priority)
          where
            pick : (a b : Bool) → Tells (s.fault i < p) a → Tells (p < (s.at i).priority) b → cond (a && b) x 0 ≡ 0
            pick a b (holds l) (holds h) = absurd (omega (arith, fewer.raised i low))
            pick a b (holds l) (fails n) = refl
            pick a b (fails n) side = refl

    -- M and N are no larger
    elsewhere-backup : backup_elsewhere s i ≤ backup_elsewhere t (place i)
    unfolding backup_elsewhere largest_backup backup_of others
    elsewhere-backup =
        most-along _ _ place s.count t.count fewer.places.within
        (λ j h. picked-less _ _ (and-tells (not-tells (eqb_tells j i)) (leb_tells (s.at i).priority (s.fault j))) (and-tells (not-tells (eqb_tells (place j) (place i))) (leb_tells (t.at (place i)).priority (t.fault (place j))))
        (λ both. (apart i j low h both.0, subst (λ (q : ℕ). (t.at (place i)).priority ≤ q) (sym (fewer.raised-there j h)) (fewer.not-below i j low h (subst (λ (q : ℕ). (s.at i).priority ≤ q) (fewer.raised j h) both.1)))) (fewer.backup j h))

    fault-backup : backup_from_fault s i ≤ backup_from_fault t (place i)
    unfolding backup_from_fault largest_backup backup_of everyone
    fault-backup =
        most-along _ _ place s.count t.count fewer.places.within
        (λ j h. picked-less _ _ (leb_tells (s.fault i) (s.fault j)) (leb_tells (t.fault (place i)) (t.fault (place j)))
        (λ less. omega (arith, fewer.not-below i j low h (omega (arith, less, fewer.raised i low, fewer.raised j h)), fewer.raised-there i low, fewer.raised-there j h)) (fewer.backup j h))

    -- the supplier takes the same
    supplied : (L : ℕ) → supplier_of s.round s.share L ≡ supplier_of t.round t.share L
    supplied L = ap₂ (λ (round share : ℕ). supplier_of round share L) fewer.round fewer.share

    -- and no length is asked more of
    elsewhere-less : (L : ℕ) → struck_elsewhere s i L ≤ struck_elsewhere t (place i) L
    unfolding asked_elsewhere struck_elsewhere
    elsewhere-less L =
        let faults = subst (λ (e : ℕ). up L s.interval * backup_elsewhere s i ≤ up L e * backup_elsewhere t (place i)) fewer.interval (mul-le-mul_left (up L s.interval) elsewhere-backup) in
        omega (arith, fewer.cost i low, above-less L, faults, supplied L)

    itself-less : (L : ℕ) → struck_itself s i L ≤ struck_itself t (place i) L
    unfolding asked_itself is_between struck_itself
    itself-less L =
        let faults = subst (λ (e : ℕ). (up L s.interval - 1) * backup_from_fault s i ≤ (up L e - 1) * backup_from_fault t (place i)) fewer.interval (mul-le-mul_left (up L s.interval - 1) fault-backup) in
        omega (arith, fewer.cost i low, fewer.backup i low, above-less L, between_none L, faults, supplied L)

    elsewhere-earlier : NoLater (time_elsewhere 65535 s i) (time_elsewhere 65535 t (place i))
    unfolding time_elsewhere
    elsewhere-earlier = least-easier _ _ 65535 (λ L some. elsewhere-less L)

    itself-earlier : NoLater (time_itself 65535 s i) (time_itself 65535 t (place i))
    unfolding time_itself
    itself-earlier = least-easier _ _ 65535 (λ L some. itself-less L)

    -- so the response is no later
    response-earlier : NoLater (response_time s i) (response_time t (place i))
    unfolding response_time
    response-earlier some = go (ℕ_discrete (time_elsewhere 65535 t (place i)) 0) (ℕ_discrete (time_itself 65535 t (place i)) 0)
      where
        go : Dec (time_elsewhere 65535 t (place i) ≡ 0) → Dec (time_itself 65535 t (place i) ≡ 0) → (1 ≤ response_within 65535 s i) × (response_within 65535 s i ≤ response_within 65535 t (place i))
        go (yes z) side = absurd (omega (arith, late-elsewhere 65535 t (place i) z))
        go (no a) (yes z) = absurd (omega (arith, late-itself 65535 t (place i) a z))
        go (no a) (no b) =
            let one = elsewhere-earlier (omega arith) in
            let two = itself-earlier (omega arith) in
            let left = on-time 65535 s i (λ z. omega arith) (λ z. omega arith) in
            let right = on-time 65535 t (place i) a b in
            (omega arith, omega arith)

    -- and a task is on time where it was with more beside it
    late-earlier : late t (place i) ≡ false → late s i ≡ false
    unfolding is_late
    late-earlier e =
        let tests = neither (eqb (response_time t (place i)) 0) (ltb (t.at (place i)).deadline (response_time t (place i))) e in
        let some = eqb-false (response_time t (place i)) 0 tests.0 in
        let known = response-earlier (omega arith) in
        ap₂ ◌||◌ (ne_eqb (response_time s i) 0 (λ z. omega (arith, known.0))) (le-ltb (s.at i).deadline (response_time s i) (omega (arith, known.1, fewer.deadline i low, ltb-false (t.at (place i)).deadline (response_time t (place i)) tests.1)))

  -- fewer tasks pass where more do
  pub fewer-pass : passes t ≡ true → passes s ≡ true
  fewer-pass e = (passes-exactly s).1 (λ i low. late-earlier i low ((passes-exactly t).0 e (place i) (fewer.places.within i low)))
