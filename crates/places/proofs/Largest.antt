-- The largest and the least of what the places below a count have, and the highest place where a test holds. Assumes nothing.
use Prim.Native.Nat.{ℕ, zero, suc, ◌+◌, ◌≤◌, ◌<◌, max, min}
use mathlib.Core.Path.{◌≡◌, refl, sym, ap, ◌∙◌, subst}
use mathlib.Core.Bool.{Bool, true, false, cond, true≢false}
use mathlib.Core.Logic.{◌⊎◌, inl, inr, ⊎_elim}
use native.Mathlib.Nat.{eq-or-lt_of_le, le_of_suc-le-suc, not-suc-le-zero}
use native.Mathlib.Decide.{dec_le}
use native.Mathlib.Omega.{arith}
use Rattle.places.specs.Places.{most_below, least_below, highest_below}

-- what one place has is within the largest
pub most-part : (f : ℕ → ℕ) (n k : ℕ) → k < n → f k ≤ most_below f n
unfolding most_below
most-part f zero k below = absurd (not-suc-le-zero below)
most-part f (suc n) k below = ⊎_elim (λ e. omega (arith, ap f e)) (λ lt. omega (arith, most-part f n k lt)) (eq-or-lt_of_le (le_of_suc-le-suc below))

-- what bounds the value of each place bounds the largest
pub most-within : (f : ℕ → ℕ) (n bound : ℕ) → ((k : ℕ) → k < n → f k ≤ bound) → most_below f n ≤ bound
unfolding most_below
most-within f zero bound each = omega arith
most-within f (suc n) bound each = omega (arith, most-within f n bound (λ k below. each k (omega arith)), each n (omega arith))

-- what holds of 0 and of the value of each place holds of the largest
pub max-holds : (P : ℕ → Type 0) (a b : ℕ) → P a → P b → P (max a b)
max-holds P a b first second = go (dec_le a b)
  where
    go : Dec (a ≤ b) → P (max a b)
    go (yes h) = let e : b ≡ max a b = omega arith in subst P e second
    go (no h) = let e : a ≡ max a b = omega arith in subst P e first

pub most-holds : (P : ℕ → Type 0) (f : ℕ → ℕ) (n : ℕ) → P 0 → ((k : ℕ) → k < n → P (f k)) → P (most_below f n)
unfolding most_below
most-holds P f zero none each = none
most-holds P f (suc n) none each = max-holds P (most_below f n) (f n) (most-holds P f n none (λ k h. each k (omega arith))) (each n (omega arith))

-- what is largest along some of the places is within the whole largest
pub most-along : (g f place : ℕ → ℕ) (m n : ℕ) → ((j : ℕ) → j < m → place j < n) → ((j : ℕ) → j < m → g j ≤ f (place j)) → most_below g m ≤ most_below f n
unfolding most_below
most-along g f place zero n below each = omega arith
most-along g f place (suc m) n below each =
    omega (arith, most-along g f place m n (λ j h. below j (omega arith)) (λ j h. each j (omega arith)), each m (omega arith), most-part f n (place m) (below m (omega arith)))

module _ (none : ℕ) (counts : ℕ → Bool) (f : ℕ → ℕ) where
  -- no place that counts has less
  pub least-low : (k n : ℕ) → k < n → counts k ≡ true → least_below none counts f n ≤ f k
  unfolding least_below
  least-low k zero below here = absurd (not-suc-le-zero below)
  least-low k (suc n) below here = go (counts n) refl (least-low k n) (eq-or-lt_of_le (le_of_suc-le-suc below))
    where
      go : (b : Bool) → counts n ≡ b → (k < n → counts k ≡ true → least_below none counts f n ≤ f k) → (k ≡ n) ⊎ (k < n) → cond b (min (f n) (least_below none counts f n)) (least_below none counts f n) ≤ f k
      go true is rest (inl e) = omega (arith, ap f e)
      go true is rest (inr low) = omega (arith, rest low here)
      go false is rest (inl e) = absurd (true≢false (sym here ∙ ap counts e ∙ is))
      go false is rest (inr low) = rest low here

  -- it is what one of them has, or the number given for none
  pub least-one : (n : ℕ) → (least_below none counts f n ≡ none) ⊎ ((k : ℕ) × (k < n) × (counts k ≡ true) × (least_below none counts f n ≡ f k))
  unfolding least_below
  least-one zero = inl refl
  least-one (suc n) = go (counts n) refl (least-one n) (dec_le (f n) (least_below none counts f n))
    where
      go : (b : Bool) → counts n ≡ b → (least_below none counts f n ≡ none) ⊎ ((k : ℕ) × (k < n) × (counts k ≡ true) × (least_below none counts f n ≡ f k)) → Dec (f n ≤ least_below none counts f n)
          → (cond b (min (f n) (least_below none counts f n)) (least_below none counts f n) ≡ none) ⊎ ((k : ℕ) × (k < suc n) × (counts k ≡ true) × (cond b (min (f n) (least_below none counts f n)) (least_below none counts f n) ≡ f k))
      go true is w (yes h) = inr (n, omega arith, is, omega arith)
      go true is (inl e) (no h) = inl (omega arith)
      go true is (inr w) (no h) = inr (w.0, omega (arith, w.1), w.2, omega (arith, w.3))
      go false is (inl e) d = inl e
      go false is (inr w) d = inr (w.0, omega (arith, w.1), w.2, w.3)

-- the highest place is one of those below the count, or 0
pub highest-at-most : (test : ℕ → Bool) (n : ℕ) → highest_below test n ≤ n
unfolding highest_below
highest-at-most test zero = omega arith
highest-at-most test (suc n) = go (test n) (highest-at-most test n)
  where
    go : (b : Bool) → highest_below test n ≤ n → cond b (n + 1) (highest_below test n) ≤ suc n
    go true low = omega arith
    go false low = omega arith

-- the highest place where a test holds, counted from 1: no place where it holds is above it
pub highest-low : (test : ℕ → Bool) (k n : ℕ) → k < n → test k ≡ true → k + 1 ≤ highest_below test n
unfolding highest_below
highest-low test k zero below here = absurd (omega arith)
highest-low test k (suc n) below here = go (test n) refl (highest-low test k n) (dec_le n k)
  where
    go : (b : Bool) → test n ≡ b → (k < n → test k ≡ true → k + 1 ≤ highest_below test n) → Dec (n ≤ k) → k + 1 ≤ cond b (n + 1) (highest_below test n)
    go true is rest d = omega arith
    go false is rest (no h) = rest (omega arith) here
    go false is rest (yes h) =
        let same : k ≡ n = omega arith in
        absurd (true≢false (sym here ∙ ap test same ∙ is))

-- and it holds there, unless it holds at none
pub highest-one : (test : ℕ → Bool) (n : ℕ) → (highest_below test n ≡ 0) ⊎ ((k : ℕ) × (k < n) × (highest_below test n ≡ k + 1) × (test k ≡ true))
unfolding highest_below
highest-one test zero = inl refl
highest-one test (suc n) = go (test n) refl (highest-one test n)
  where
    go : (b : Bool) → test n ≡ b → (highest_below test n ≡ 0) ⊎ ((k : ℕ) × (k < n) × (highest_below test n ≡ k + 1) × (test k ≡ true))
        → (cond b (n + 1) (highest_below test n) ≡ 0) ⊎ ((k : ℕ) × (k < suc n) × (cond b (n + 1) (highest_below test n) ≡ k + 1) × (test k ≡ true))
    go true is w = inr (n, omega arith, refl, is)
    go false is (inl z) = inl z
    go false is (inr w) = inr (w.0, omega (arith, w.1), w.2, w.3)

pub highest-holds : (test : ℕ → Bool) (k n : ℕ) → highest_below test n ≡ k + 1 → (k < n) × (test k ≡ true)
highest-holds test k n e = ⊎_elim (λ none. absurd (omega arith)) there (highest-one test n)
  where
    there : (j : ℕ) × (j < n) × (highest_below test n ≡ j + 1) × (test j ≡ true) → (k < n) × (test k ≡ true)
    there w =
        let same : w.0 ≡ k = omega (arith, w.2) in
        (omega (arith, w.1), ap test (sym same) ∙ w.3)
