-- Signed numbers as the code holds them: one that is handed on, and a number with a minus sign, computed as 0 less the number.
-- Assumes nothing.
use Prim.Native.Nat.{ℕ, zero, suc, ◌^◌, ◌<◌}
use mathlib.Core.Path.{◌≡◌, sym, ap, ◌∙◌, subst}
use native.Mathlib.Omega.{arith}
use lib.Dec.{lit<}
use lib.IntN.{ℤ, pos, neg_ℤ, ◌-ℤ◌, +ℤ_idl}
use lib.Signed.{mag}
use mir.Syntax.{w64}
use mir.Val.{SFits, to_z, of_z}
use mir.Facts.{to_z_pos, to_z-of_z}

-- a signed number that is handed on is itself
pub handed : (z : ℤ) → mag z < 2 ^ 63 → to_z w64 (of_z w64 z) ≡ z
handed z h = to_z-of_z {w = w64} (record { sfits = h })

-- a number of less than 63 bits has a minus sign
module _ (n : ℕ) (fits : n < 2 ^ 63) where
  minus_is : to_z w64 0 -ℤ to_z w64 n ≡ neg_ℤ (pos n)
  minus_is = ap (λ (z : ℤ). pos 0 -ℤ z) (to_z_pos w64 fits) ∙ +ℤ_idl (neg_ℤ (pos n))

  pub minus-fits : SFits w64 (to_z w64 0 -ℤ to_z w64 n)
  minus-fits = subst (SFits w64) (sym minus_is) (go n fits)
    where
      go : (k : ℕ) → k < 2 ^ 63 → SFits w64 (neg_ℤ (pos k))
      go zero h = record { sfits = lit< tt }
      go (suc k) h = record { sfits = omega arith }

  pub minus : to_z w64 (of_z w64 (to_z w64 0 -ℤ to_z w64 n)) ≡ neg_ℤ (pos n)
  minus = to_z-of_z minus-fits ∙ minus_is
