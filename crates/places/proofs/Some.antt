-- Whether a test holds at some place below a count: where, and where not. Assumes nothing.
use Prim.Native.Nat.{ℕ, zero, suc, ◌<◌}
use mathlib.Core.Path.{◌≡◌, refl, ap₂, subst}
use mathlib.Core.Bool.{Bool, true, false, ◌||◌}
use mathlib.Core.Logic.{◌⊎◌, inl, inr, ⊎_elim}
use native.Mathlib.Nat.{eq-or-lt_of_le, le_of_suc-le-suc}
use native.Mathlib.Omega.{arith}
use Rattle.places.specs.Places.{some_below}
use Rattle.places.proofs.Tells.{Tells, fails, tells-iff, told, denied, shown, unshown, tells-same, or-tells, tests}

-- `some_below` tells that there is a place below n where the test's proposition holds
pub some-tells-below : {P : ℕ → Type 0} {test : ℕ → Bool} (n : ℕ) → ((k : ℕ) → k < n → Tells (P k) (test k)) → Tells ((k : ℕ) × (k < n) × P k) (some_below test n)
unfolding some_below
some-tells-below zero each = fails (λ s. omega arith)
some-tells-below {P} (suc n) each = tells-iff widen narrow (or-tells (some-tells-below n (λ k below. each k (omega arith))) (each n (omega arith)))
  where
    widen : ((k : ℕ) × (k < n) × P k) ⊎ P n → (k : ℕ) × (k < suc n) × P k
    widen (inl s) = (s.0, omega arith, s.2)
    widen (inr p) = (n, omega arith, p)

    narrow : (k : ℕ) × (k < suc n) × P k → ((k : ℕ) × (k < n) × P k) ⊎ P n
    narrow s = ⊎_elim (λ e. inr (subst P e s.2)) (λ l. inl (s.0, l, s.2)) (eq-or-lt_of_le (le_of_suc-le-suc s.1))

pub some-tells : {P : ℕ → Type 0} {test : ℕ → Bool} → ((k : ℕ) → Tells (P k) (test k)) → (n : ℕ) → Tells ((k : ℕ) × (k < n) × P k) (some_below test n)
some-tells each n = some-tells-below n (λ k below. each k)

module _ (test : ℕ → Bool) where
  -- the test itself
  true-there : (n : ℕ) → Tells ((k : ℕ) × (k < n) × (test k ≡ true)) (some_below test n)
  true-there n = some-tells (λ k. tests (test k)) n

  -- a test that holds at a place holds at some
  pub some-found : (k n : ℕ) → k < n → test k ≡ true → some_below test n ≡ true
  some-found k n below here = shown (true-there n) (k, below, here)

  -- and one that holds at some holds at one of them
  pub some-where : (n : ℕ) → some_below test n ≡ true → (k : ℕ) × (k < n) × (test k ≡ true)
  some-where n e = told (true-there n) e

  -- it holds at none where it fails at each
  pub some-none : (n : ℕ) → ((k : ℕ) → k < n → test k ≡ false) → some_below test n ≡ false
  unfolding some_below
  some-none zero none = refl
  some-none (suc n) none = ap₂ ◌||◌ (some-none n (λ k below. none k (omega arith))) (none n (omega arith))

  -- and fails at each where it holds at none
  pub none-at : (n k : ℕ) → k < n → some_below test n ≡ false → test k ≡ false
  none-at n k below none = unshown (tests (test k)) (λ here. denied (true-there n) none (k, below, here))

-- some place has one of two things exactly if some place has the one or some the other
pub some-either : (f g : ℕ → Bool) (n : ℕ) → some_below (λ k. f k || g k) n ≡ (some_below f n || some_below g n)
some-either f g n =
    tells-same (tells-iff apart joined (some-tells (λ k. or-tells (tests (f k)) (tests (g k))) n)) (or-tells (true-there f n) (true-there g n))
  where
    apart : (k : ℕ) × (k < n) × ((f k ≡ true) ⊎ (g k ≡ true)) → ((k : ℕ) × (k < n) × (f k ≡ true)) ⊎ ((k : ℕ) × (k < n) × (g k ≡ true))
    apart w = ⊎_elim (λ h. inl (w.0, w.1, h)) (λ h. inr (w.0, w.1, h)) w.2

    joined : ((k : ℕ) × (k < n) × (f k ≡ true)) ⊎ ((k : ℕ) × (k < n) × (g k ≡ true)) → (k : ℕ) × (k < n) × ((f k ≡ true) ⊎ (g k ≡ true))
    joined (inl w) = (w.0, w.1, inl w.2)
    joined (inr w) = (w.0, w.1, inr w.2)
