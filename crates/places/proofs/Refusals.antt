-- Of two refusals the first that is not 0; the first refusal, place by place; and a chain of tests that gave none. Assumes nothing.
use Prim.Native.Nat.{ℕ, zero, suc, ◌+◌, ◌<◌}
use mathlib.Core.Path.{◌≡◌, refl, sym, ap, ◌∙◌}
use mathlib.Core.Bool.{Bool, true, false, cond}
use mathlib.Core.Logic.{◌⊎◌, ⊎_elim}
use native.Mathlib.Nat.{not-suc-le-zero, suc-ne-zero, eq-or-lt_of_le, le_of_suc-le-suc}
use native.Mathlib.Numerals.{add-one}
use native.Mathlib.Decide.{ℕ_discrete}
use native.Mathlib.Omega.{arith}
use borrow.Author.Tests.{ne_eqb}
use Rattle.places.specs.Refusals.{or_else, first_below}

-- of two refusals the first that is not 0
pub next-of : {a : ℕ} (b : ℕ) → a ≡ 0 → or_else a b ≡ b
unfolding or_else
next-of b e = rw e refl

pub first_of : (a b : ℕ) → (a ≡ 0 → ⊥) → or_else a b ≡ a
unfolding or_else
first_of a b broken = rw (ne_eqb a 0 broken) refl

pub none_of : (a b : ℕ) → or_else a b ≡ 0 → (a ≡ 0) × (b ≡ 0)
none_of a b e = go (ℕ_discrete a 0)
  where
    go : Dec (a ≡ 0) → (a ≡ 0) × (b ≡ 0)
    go (yes z) = (z, sym (next-of b z) ∙ e)
    go (no z) = absurd (z (sym (first_of a b z) ∙ e))

-- the first refusal, place by place
module _ (refusal : ℕ → ℕ) where
  pub first_more : (n : ℕ) → first_below refusal n ≡ 0 → refusal n ≡ 0 → first_below refusal (n + 1) ≡ 0
  unfolding first_below
  first_more n before here = rw add-one (next-of (refusal n) before ∙ here)

  pub first_found : (k n : ℕ) → first_below refusal k ≡ 0 → k < n → (refusal k ≡ 0 → ⊥) → first_below refusal n ≡ refusal k
  unfolding first_below
  first_found k zero before below broken = absurd (not-suc-le-zero below)
  first_found k (suc n) before below broken = go (first_found k n before) (eq-or-lt_of_le (le_of_suc-le-suc below))
    where
      go : (k < n → (refusal k ≡ 0 → ⊥) → first_below refusal n ≡ refusal k) → (k ≡ n) ⊎ (k < n) → first_below refusal (suc n) ≡ refusal k
      go earlier w =
          ⊎_elim (λ e. next-of (refusal n) (ap (first_below refusal) (sym e) ∙ before) ∙ ap refusal (sym e))
          (λ lt. first_of (first_below refusal n) (refusal n) (λ z. broken (sym (earlier lt broken) ∙ z)) ∙ earlier lt broken) w

  -- where there is no refusal, no place has one
  pub first-all : (n : ℕ) → first_below refusal n ≡ 0 → (k : ℕ) → k < n → refusal k ≡ 0
  unfolding first_below
  first-all zero e k below = absurd (not-suc-le-zero below)
  first-all (suc n) e k below =
      let both : (first_below refusal n ≡ 0) × (refusal n ≡ 0) = none_of (first_below refusal n) (refusal n) e in
      go (first-all n both.0 k) both.1 (eq-or-lt_of_le (le_of_suc-le-suc below))
    where
      go : (k < n → refusal k ≡ 0) → refusal n ≡ 0 → (k ≡ n) ⊎ (k < n) → refusal k ≡ 0
      go earlier here w = ⊎_elim (λ same. ap refusal same ∙ here) earlier w

-- three refusals, whichever two are taken first
pub else-joined : (x y z : ℕ) → or_else (or_else x y) z ≡ or_else x (or_else y z)
else-joined x y z = go (ℕ_discrete x 0)
  where
    go : Dec (x ≡ 0) → or_else (or_else x y) z ≡ or_else x (or_else y z)
    go (yes e) = ap (λ (n : ℕ). or_else n z) (next-of y e) ∙ sym (next-of (or_else y z) e)
    go (no e) = ap (λ (n : ℕ). or_else n z) (first_of x y e) ∙ first_of x z e ∙ sym (first_of x (or_else y z) e)

-- the first refusal, from the first place on
pub first-shift : (refusal : ℕ → ℕ) (n : ℕ) → first_below refusal (suc n) ≡ or_else (refusal 0) (first_below (λ k. refusal (suc k)) n)
unfolding first_below
first-shift refusal zero = next-of (refusal 0) refl ∙ sym (else-none (refusal 0))
  where
    else-none : (x : ℕ) → or_else x 0 ≡ x
    else-none x = go (ℕ_discrete x 0)
      where
        go : Dec (x ≡ 0) → or_else x 0 ≡ x
        go (yes e) = next-of 0 e ∙ sym e
        go (no e) = first_of x 0 e
first-shift refusal (suc n) = ap (λ (x : ℕ). or_else x (refusal (suc n))) (first-shift refusal n) ∙ else-joined (refusal 0) (first_below (λ k. refusal (suc k)) n) (refusal (suc n))

-- where no place has a refusal there is none
pub first-clear : (refusal : ℕ → ℕ) (n : ℕ) → ((k : ℕ) → k < n → refusal k ≡ 0) → first_below refusal n ≡ 0
unfolding first_below
first-clear refusal zero each = refl
first-clear refusal (suc n) each = next-of (refusal n) (first-clear refusal n (λ k h. each k (omega arith))) ∙ each n (omega arith)

-- a chain of tests that gave 0 failed at its first test, and gave 0 after it
pub passed : (b : Bool) (n r : ℕ) → cond b (suc n) r ≡ 0 → (b ≡ false) × (r ≡ 0)
passed true n r e = absurd (suc-ne-zero n e)
passed false n r e = (refl, e)
