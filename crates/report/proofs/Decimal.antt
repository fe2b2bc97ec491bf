-- A number's decimal: its last digit and the digits before it, and how many there are. Assumes nothing.
use Prim.Native.Nat.{ℕ, zero, suc, ◌+◌, ◌/◌, ◌%◌, ◌^◌, ◌≤◌, ◌<◌}
use mathlib.Core.Path.{◌≡◌, refl, sym, ap, ◌∙◌, subst}
use mathlib.Core.Bool.{Bool, true, false}
use mathlib.Core.List.{List, [], ◌∷◌, ◌++◌}
use native.Mathlib.Nat.{div-lt_self, div-lt_iff_lt-mul, pow-suc, not-suc-le-zero, lt-suc_self}
use native.Mathlib.Omega.{arith}
use borrow.Author.Tests.{lt-ltb, le-ltb, ltb-true, ltb-false}
use lib.Dec.{ltb}
use lib.ListN.{length, length-append}
use Rattle.report.specs.Decimal.{digit, decimal_within, decimal}

one-digit : (most : ℕ) {n : ℕ} → n < 10 → decimal_within (suc most) n ≡ digit n ∷ []
unfolding decimal_within
one-digit most {n} small = rw (lt-ltb n 10 small) refl

more-digits : (most : ℕ) {n : ℕ} → 10 ≤ n → decimal_within (suc most) n ≡ decimal_within most (n / 10) ++ (digit (n % 10) ∷ [])
unfolding decimal_within
more-digits most {n} large = rw (le-ltb n 10 large) refl

-- a number of several digits is above what they spell without the last
pub shorter : {n : ℕ} → 10 ≤ n → n / 10 < n
shorter {n} large = div-lt_self (omega arith) (omega arith)

-- where there is room for every digit, more room makes no difference
within-enough : (a b : ℕ) {n : ℕ} → n < a → n < b → decimal_within a n ≡ decimal_within b n
within-enough zero b below _ = absurd (not-suc-le-zero below)
within-enough (suc a) zero _ below = absurd (not-suc-le-zero below)
within-enough (suc a) (suc b) {n} below below' = go (ltb n 10) refl (λ less less'. within-enough a b less less')
  where
    go : (t : Bool) → ltb n 10 ≡ t → (n / 10 < a → n / 10 < b → decimal_within a (n / 10) ≡ decimal_within b (n / 10)) → decimal_within (suc a) n ≡ decimal_within (suc b) n
    go true e again = one-digit a (ltb-true n 10 e) ∙ sym (one-digit b (ltb-true n 10 e))
    go false e again =
        let large = ltb-false n 10 e in
        let less = shorter large in
        more-digits a large ∙ ap (λ (ds : List ℕ). ds ++ (digit (n % 10) ∷ [])) (again (omega arith) (omega arith)) ∙ sym (more-digits b large)

-- a number below ten is one digit
pub decimal-one : {n : ℕ} → n < 10 → decimal n ≡ digit n ∷ []
unfolding decimal
decimal-one {n} small = one-digit n small

-- any other is the digits before the last one, and then that
pub decimal-more : {n : ℕ} → 10 ≤ n → decimal n ≡ decimal (n / 10) ++ (digit (n % 10) ∷ [])
unfolding decimal
decimal-more {n} large = more-digits n large ∙ ap (λ (ds : List ℕ). ds ++ (digit (n % 10) ∷ [])) (within-enough n (suc (n / 10)) (shorter large) (lt-suc_self (n / 10)))

-- what holds of one digit, and of one digit more, holds of every decimal
module _ (P : ℕ → List ℕ → Type 0) (one : (n : ℕ) → n < 10 → P n (digit n ∷ []))
    (more : (n : ℕ) (ds : List ℕ) → 10 ≤ n → P (n / 10) ds → P n (ds ++ (digit (n % 10) ∷ []))) where
  within : (most n : ℕ) → n < most → P n (decimal n)
  within zero n below = absurd (not-suc-le-zero below)
  within (suc most) n below = go (ltb n 10) refl (within most (n / 10))
    where
      go : (t : Bool) → ltb n 10 ≡ t → (n / 10 < most → P (n / 10) (decimal (n / 10))) → P n (decimal n)
      go true e again = subst (P n) (sym (decimal-one (ltb-true n 10 e))) (one n (ltb-true n 10 e))
      go false e again =
          let large = ltb-false n 10 e in
          let less = shorter large in
          subst (P n) (sym (decimal-more large)) (more n (decimal (n / 10)) large (again (omega arith)))

  pub by_digits : (n : ℕ) → P n (decimal n)
  by_digits n = within (suc n) n (lt-suc_self n)

-- one digit more is one byte more
pub length_more : {n : ℕ} → 10 ≤ n → length (decimal n) ≡ length (decimal (n / 10)) + 1
length_more {n} large = ap length (decimal-more large) ∙ length-append (decimal (n / 10)) (digit (n % 10) ∷ [])

-- a number below 10 ^ k has at most k digits
pub length-decimal : (k n : ℕ) → n < 10 ^ suc k → length (decimal n) ≤ suc k
length-decimal k n = by_digits (λ n ds. (k : ℕ) → n < 10 ^ suc k → length ds ≤ suc k) (λ n small k below. omega arith) longer n k
  where
    longer : (n : ℕ) (ds : List ℕ) → 10 ≤ n → ((k : ℕ) → n / 10 < 10 ^ suc k → length ds ≤ suc k) → (k : ℕ) → n < 10 ^ suc k → length (ds ++ (digit (n % 10) ∷ [])) ≤ suc k
    longer n ds large again zero below = absurd (omega arith)
    longer n ds large again (suc k) below =
        let fewer = again k ((div-lt_iff_lt-mul {k = 10} {x = n} {y = 10 ^ suc k} (omega arith)).1 (rw pow-suc at below)) in
        omega (arith, length-append ds (digit (n % 10) ∷ []))
