-- Rounding up, for every a and every b ≥ 1: the quotient and one more if a remainder is left, the least k with a ≤ k × b, rising with a. Assumes nothing.
use Prim.Native.Nat.{ℕ, zero, suc, ◌+◌, ◌-◌, ◌*◌, ◌/◌, ◌%◌, ◌≤◌, ◌<◌, zero-le, suc-le-suc}
use mathlib.Core.Path.{◌≡◌, sym, ap, subst, ◌∙◌, refl}
use mathlib.Core.Bool.{cond}
use lib.Dec.{eqb, eqb-suc-zero}
use lib.Arith.{digits_div}
use native.Mathlib.Nat.{le-div_iff_mul-le, div-lt_iff_lt-mul, div-mul-le_self, div-zero, div-add-mod', mod-lt, mul-le-mul, mul-le-mul_left, mul-one, one-mul, suc-mul, le_trans, le_of_eq, le_of_suc-le-suc}
use native.Mathlib.Omega.{arith}
use Rattle.analysis.specs.Common.Rounding.{up}

-- it rises with a
pub up-rises : (b : ℕ) {a c : ℕ} → a ≤ c → up a b ≤ up c b
unfolding up
up-rises zero {a} {c} h = le_of_eq (div-zero (a + (0 - 1)) ∙ sym (div-zero (c + (0 - 1))))
up-rises (suc b) {a} {c} h = (le-div_iff_mul-le (suc-le-suc zero-le)).1 (le_trans (div-mul-le_self (a + (suc b - 1)) (suc b)) (omega arith))

module _ (a b : ℕ) (some : 1 ≤ b) where
  -- document 02, request 4: "the quotient plus one if a remainder is left"
  pub up-taught : up a b ≡ cond (eqb (a % b) 0) (a / b) (a / b + 1)
  unfolding up
  up-taught = by-rest (a % b) refl where
    by-rest : (rest : ℕ) → a % b ≡ rest → (a + (b - 1)) / b ≡ cond (eqb rest 0) (a / b) (a / b + 1)
    by-rest zero none =
        let even : a + (b - 1) ≡ a / b * b + (b - 1) = omega (arith, div-add-mod' a b, none) in
        ap (λ (n : ℕ). n / b) even ∙ digits_div (a / b) (omega arith)
    by-rest (suc rest) left =
        let below : suc rest < b = subst (λ (n : ℕ). n < b) left (mod-lt a some) in
        let over : a + (b - 1) ≡ (a / b + 1) * b + rest = omega (arith, div-add-mod' a b, left) in
        ap (λ (n : ℕ). n / b) over ∙ digits_div (a / b + 1) (omega arith) ∙ simp (eqb-suc-zero rest)

  -- so many b make at least a
  pub up-enough : a ≤ up a b * b
  unfolding up
  up-enough = omega (arith, div-add-mod' (a + (b - 1)) b, mod-lt (a + (b - 1)) some)

  -- and fewer do not
  pub up_least : (k : ℕ) → a ≤ k * b → up a b ≤ k
  unfolding up
  up_least k h = le_of_suc-le-suc ((div-lt_iff_lt-mul some).1 (rw (suc-mul k b) (omega arith)))

  -- so there are no more than a of them, and one at least where a is not 0
  pub up_small : up a b ≤ a
  up_small = up_least a (subst (λ (n : ℕ). n ≤ a * b) (mul-one a) (mul-le-mul_left a some))

  pub up-some : 1 ≤ a → 1 ≤ up a b
  unfolding up
  up-some h = (le-div_iff_mul-le some).1 (rw (one-mul b) (omega arith))

-- a length of 1 has one
pub up_one : (b : ℕ) → 1 ≤ b → up 1 b ≡ 1
up_one b some = omega (arith, up_small 1 b some, up-some 1 b some (omega arith))

-- worked values: nothing, the divisor itself, one below, at and above a multiple, by 1, and both at 65,535
up-worked : (up 0 7 ≡ 0) × (up 1 7 ≡ 1) × (up 6 7 ≡ 1) × (up 7 7 ≡ 1) × (up 8 7 ≡ 2) × (up 13 7 ≡ 2) × (up 14 7 ≡ 2) × (up 15 7 ≡ 3) × (up 5 1 ≡ 5) × (up 65535 1 ≡ 65535) × (up 65535 65535 ≡ 1) × (up 65534 65535 ≡ 1) × (up 65535 65534 ≡ 2)
unfolding up
up-worked = (refl, refl, refl, refl, refl, refl, refl, refl, refl, refl, refl, refl, refl)

-- a product of two numbers of 16 bits
pub wide-product : {a b : ℕ} → a < 65536 → b < 65536 → a * b ≤ 4294836225
wide-product ha hb = mul-le-mul (le_of_suc-le-suc ha) (le_of_suc-le-suc hb)

-- the first fault's backup is paid
pub first-paid : (u n : ℕ) → 1 ≤ u → u * n ≡ (u - 1) * n + n
first-paid zero n h = absurd (omega arith)
first-paid (suc u) n h =
    let rest : suc u - 1 ≡ u = omega arith in
    rw rest (suc-mul u n)
