-- A number of 32 bits with a sign, as the code prints it: less than 0 or not, and how far from 0. Assumes nothing.
use Prim.Native.Nat.{ℕ, suc, ◌^◌, ◌≤◌, ◌<◌}
use mathlib.Core.Path.{◌≡◌, refl}
use mathlib.Core.Bool.{true, false, true≢false}
use mathlib.Core.List.{◌∷◌}
use native.Mathlib.Omega.{arith}
use borrow.Author.Tests.{ltb-true}
use lib.Dec.{T}
use lib.IntN.{ℤ, pos, negsuc, nat_abs}
use lib.ListN.{length}
use lib.Signed.{mag, lt_z, non_neg}
use mir.Syntax.{w32}
use mir.Val.{to_z, of_z}
use mir.Facts.{to_z-of_z}
use Rattle.report.specs.Decimal.{decimal, signed}
use Rattle.report.proofs.Decimal.{length-decimal}

-- the text of a negative number
pub signed-negative : (z : ℤ) → lt_z z (pos 0) ≡ true → signed z ≡ 45 ∷ decimal (nat_abs z)
unfolding signed
signed-negative (pos n) less = absurd (omega (arith, ltb-true n 0 less))
signed-negative (negsuc n) less = refl

-- and of one that is not
pub signed-not : (z : ℤ) → lt_z z (pos 0) ≡ false → signed z ≡ decimal (nat_abs z)
unfolding signed
signed-not (pos n) not-less = refl
signed-not (negsuc n) not-less = absurd (true≢false not-less)

pub not_negative : (z : ℤ) → lt_z z (pos 0) ≡ false → T (non_neg z)
not_negative (pos n) not-less = tt
not_negative (negsuc n) not-less = absurd (true≢false not-less)

-- it has at most eleven bytes
pub length-signed : (z : ℤ) → mag z < 2 ^ 31 → length (signed z) ≤ 11
unfolding signed
length-signed (pos n) fits = omega (arith, length-decimal 9 n (omega arith))
length-signed (negsuc n) fits = omega (arith, length-decimal 9 (suc n) (omega arith))

-- a number is no farther from 0 than its width allows
pub abs-within : (z : ℤ) (most : ℕ) → mag z < most → nat_abs z ≤ most
abs-within (pos n) most h = omega arith
abs-within (negsuc n) most h = omega arith

module _ (z : ℤ) (fits : mag z < 2 ^ 31) where
  pub back : to_z w32 (of_z w32 z) ≡ z
  back = to_z-of_z {w = w32} (record { sfits = fits })

  pub abs-small : nat_abs z ≤ 2147483648
  abs-small = abs-within z 2147483648 (omega arith)
