-- The first place with the largest value: one place more, and what it is for a place to be that. Assumes nothing.
use Prim.Native.Nat.{ℕ, zero, suc, ◌+◌, ◌≤◌, ◌<◌, max}
use mathlib.Core.Path.{◌≡◌, refl, ap}
use mathlib.Core.Bool.{cond}
use native.Mathlib.Numerals.{add-one}
use native.Mathlib.Decide.{dec_lt}
use native.Mathlib.Omega.{arith}
use borrow.Author.Tests.{lt-ltb, le-ltb}
use lib.Dec.{ltb}
use Rattle.places.specs.Places.{most_below}
use Rattle.places.proofs.Largest.{most-part}
use Rattle.reasons.specs.Told.{Whose, Strike}
use Rattle.reasons.specs.Told.Whose.{Nobody, At}
use Rattle.reasons.specs.Terms.{owner_below}
use Rattle.reasons.specs.Strikes.{strike_below, larger_of}

-- the larger of the largest so far and a backup
pub larger-taken : (strike : Strike) (backup place : ℕ) → strike.backup < backup → record { backup = backup; whose = At place } ≡ larger_of strike backup place
unfolding larger_of
larger-taken strike backup place more =
    let most : backup ≡ max strike.backup backup = omega arith in
    simp (lt-ltb strike.backup backup more) (ap (λ (n : ℕ). record { backup = n; whose = At place }) most)

pub larger-kept : (strike : Strike) (backup place : ℕ) → backup ≤ strike.backup → strike ≡ larger_of strike backup place
unfolding larger_of
larger-kept strike backup place less =
    let most : strike.backup ≡ max strike.backup backup = omega arith in
    simp (le-ltb strike.backup backup less) (ap (λ (n : ℕ). record { backup = n; whose = strike.whose }) most)

-- one place more
pub strike-more : (value : ℕ → ℕ) (n : ℕ) → strike_below value (n + 1) ≡ larger_of (strike_below value n) (value n) n
unfolding most_below owner_below larger_of
strike-more value n = ap (strike_below value) (add-one n)

-- whose the largest value of the places below n is: nobody's where it is 0, else that of the first place that has it
pub data Owner (value : ℕ → ℕ) (n : ℕ) : Whose → Type 0 where
  nobody : most_below value n ≡ 0 → Owner value n Nobody
  first : {k : ℕ} → k < n → value k ≡ most_below value n → 1 ≤ value k → ((j : ℕ) → j < k → value j < value k) → Owner value n (At k)

pub owner-is : (value : ℕ → ℕ) (n : ℕ) → Owner value n (owner_below value n)
unfolding most_below owner_below
owner-is value zero = nobody refl
owner-is value (suc n) = go (dec_lt (most_below value n) (value n)) (owner-is value n)
  where
    keep : {w : Whose} → value n ≤ most_below value n → Owner value n w → Owner value (suc n) w
    keep low (nobody none) = nobody (omega arith)
    keep low (first {k = k} below most some earlier) = first {k = k} (omega arith) (omega arith) some earlier

    go : Dec (most_below value n < value n) → Owner value n (owner_below value n) → Owner value (suc n) (cond (ltb (most_below value n) (value n)) (At n) (owner_below value n))
    go (yes larger) before = rw (lt-ltb (most_below value n) (value n) larger) (first {k = n} (omega arith) (omega arith) (omega arith) (λ j below. omega (arith, most-part value n j below)))
    go (no other) before = rw (le-ltb (most_below value n) (value n) (omega arith)) (keep (omega arith) before)
