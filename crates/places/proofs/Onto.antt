-- Places numbered anew: a numbering of n things by the numbers below n, each with its own, leaves no number out; and places that rise. For every n. Assumes nothing.
use Prim.Native.Nat.{ℕ, zero, suc, ◌-◌, ◌≤◌, ◌<◌}
use mathlib.Core.Path.{◌≡◌, sym}
use mathlib.Core.Bool.{cond}
use native.Mathlib.Nat.{not-suc-le-zero}
use native.Mathlib.Decide.{ℕ_discrete, dec_lt}
use native.Mathlib.Omega.{arith}
use borrow.Author.Tests.{lt-ltb, le-ltb}
use lib.Dec.{ltb}

pub record Numbering (n : ℕ) (number : ℕ → ℕ) : Type 0 where
  pub within : (k : ℕ) → k < n → number k < n
  pub apart : (j k : ℕ) → j < n → k < n → number j ≡ number k → j ≡ k

-- the numbers but one, closed up over the gap that it leaves
unfoldable pub closed : ℕ → ℕ → ℕ
closed gap x = cond (ltb gap x) (x - 1) x

pub closed-above : (gap x : ℕ) → gap < x → closed gap x ≡ x - 1
unfolding closed
closed-above gap x h = simp (lt-ltb gap x h)

pub closed-below : (gap x : ℕ) → x ≤ gap → closed gap x ≡ x
unfolding closed
closed-below gap x h = simp (le-ltb gap x h)

-- two numbers beside the gap that are closed up to one are one
closed-apart : (gap x y : ℕ) → (x ≡ gap → ⊥) → (y ≡ gap → ⊥) → closed gap x ≡ closed gap y → x ≡ y
closed-apart gap x y other-x other-y e = go (dec_lt gap x) (dec_lt gap y)
  where
    go : Dec (gap < x) → Dec (gap < y) → x ≡ y
    go (yes a) (yes b) = omega (arith, closed-above gap x a, closed-above gap y b)
    go (yes a) (no b) = omega (arith, closed-above gap x a, closed-below gap y (omega arith))
    go (no a) (yes b) = omega (arith, closed-below gap x (omega arith), closed-above gap y b)
    go (no a) (no b) = omega (arith, closed-below gap x (omega arith), closed-below gap y (omega arith))

closed-within : (gap x n : ℕ) → (x ≡ gap → ⊥) → x < suc n → gap < suc n → closed gap x < n
closed-within gap x n other low room = go (dec_lt gap x)
  where
    go : Dec (gap < x) → closed gap x < n
    go (yes a) = omega (arith, closed-above gap x a)
    go (no a) = omega (arith, closed-below gap x (omega arith))

-- the things but the last, numbered over the gap that the last one leaves
pub numbered-before : (n : ℕ) (number : ℕ → ℕ) → Numbering (suc n) number → Numbering n (λ k. closed (number n) (number k))
numbered-before n number all =
    record {
      within = λ k low. closed-within (number n) (number k) n (other k low) (all.within k (omega arith)) (all.within n (omega arith));
      apart = λ j k a b e. all.apart j k (omega arith) (omega arith) (closed-apart (number n) (number j) (number k) (other j a) (other k b) e);
    }
  where
    other : (k : ℕ) → k < n → number k ≡ number n → ⊥
    other k low e =
        let same = all.apart k n (omega arith) (omega arith) e in
        omega arith

pub onto : (n : ℕ) (number : ℕ → ℕ) → Numbering n number → (m : ℕ) → m < n → (k : ℕ) × (k < n) × (number k ≡ m)
onto zero number all m low = absurd (not-suc-le-zero low)
onto (suc n) number all m low = go (ℕ_discrete m (number n)) (onto n (λ k. closed (number n) (number k)) (numbered-before n number all))
  where
    go : Dec (m ≡ number n) → ((x : ℕ) → x < n → (k : ℕ) × (k < n) × (closed (number n) (number k) ≡ x)) → (k : ℕ) × (k < suc n) × (number k ≡ m)
    go (yes e) before = (n, omega arith, sym e)
    go (no e) before =
        let found = before (closed (number n) m) (closed-within (number n) m n e low (all.within n (omega arith))) in
        let other : number found.0 ≡ number n → ⊥ = λ same. let one = all.apart found.0 n (omega (arith, found.1)) (omega arith) same in omega (arith, found.1) in
        (found.0, omega (arith, found.1), closed-apart (number n) (number found.0) m other e found.2)

-- places that rise, each below n
pub record Rising (m n : ℕ) (place : ℕ → ℕ) : Type 0 where
  pub within : (j : ℕ) → j < m → place j < n
  pub rises : (i j : ℕ) → i < j → j < m → place i < place j
