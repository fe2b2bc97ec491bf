-- The records of a good table by priority: each has a rank of its own, counted from the highest, and no priority is left out. Assumes nothing.
use Prim.Native.Nat.{ℕ, ◌-◌, ◌≤◌, ◌<◌}
use mathlib.Core.Path.{◌≡◌, sym, ◌∙◌}
use mathlib.Core.Bool.{false≢true}
use native.Mathlib.Decide.{dec_lt}
use native.Mathlib.Omega.{arith}
use borrow.Author.Tests.{eq-eqb}
use lib.Dec.{eqb}
use Rattle.places.proofs.Some.{none-at}
use Rattle.places.proofs.Onto.{Numbering, onto}
use Rattle.sheet.specs.declared.Record.{Record}
use Rattle.sheet.specs.Rules.{taken, records_refusal}
use Rattle.sheet.proofs.Cases.{good-at}

module _ (n : ℕ) (at : ℕ → Record) (good : records_refusal n at ≡ 0) where
  -- no record has the priority of an earlier one
  not_earlier : (j k : ℕ) → j < k → k < n → (at j).priority ≡ (at k).priority → ⊥
  unfolding taken
  not_earlier j k before below e =
      let none = none-at (λ earlier. eqb (at earlier).priority (at k).priority) k j before (good-at n at good k below).fresh in
      false≢true (sym none ∙ eq-eqb (at j).priority (at k).priority e)

  pub ranked : Numbering n (λ place. n - (at place).priority)
  ranked =
      record {
        within = λ k below. omega (arith, (good-at n at good k below).priority);
        apart = λ j k a b e.
            let same : (at j).priority ≡ (at k).priority = omega (arith, (good-at n at good j a).priority, (good-at n at good k b).priority) in
            one j k a b same (dec_lt j k) (dec_lt k j);
      }
    where
      one : (j k : ℕ) → j < n → k < n → (at j).priority ≡ (at k).priority → Dec (j < k) → Dec (k < j) → j ≡ k
      one j k a b e (yes lt) other = absurd (not_earlier j k lt b e)
      one j k a b e (no ge) (yes gt) = absurd (not_earlier k j gt a (sym e))
      one j k a b e (no ge) (no le) = omega arith

  pub each-there : (p : ℕ) → 1 ≤ p → p ≤ n → (place : ℕ) × (place < n) × ((at place).priority ≡ p)
  each-there p some low =
      let found = onto n (λ place. n - (at place).priority) ranked (n - p) (omega arith) in
      (found.0, found.1, omega (arith, found.2, (good-at n at good found.0 found.1).priority))
