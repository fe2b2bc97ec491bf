-- The difference of two numbers with its sign, and as code computes it in signed numbers of any width. Assumes nothing.
use Prim.Native.Nat.{ℕ, zero, suc, ◌-◌, ◌^◌, ◌≤◌, ◌<◌}
use mathlib.Core.Path.{◌≡◌, sym, ap, ap₂, ◌∙◌, subst}
use native.Mathlib.Decide.{dec_le}
use native.Mathlib.Omega.{arith}
use borrow.Author.Tests.{le-ltb, lt-ltb}
use lib.IntN.{pos, negsuc, ◌-ℤ◌}
use lib.Signed.{mag}
use mir.Syntax.{Width}
use mir.Val.{SFits, hbits, to_z, of_z}
use mir.Facts.{to_z_pos, to_z-of_z}

-- it is what is left where the second is no larger
pub difference-left : (a b : ℕ) → b ≤ a → pos a -ℤ pos b ≡ pos (a - b)
difference-left a zero h = ap pos (omega arith)
difference-left a (suc b) h = simp (le-ltb a (suc b) h)

-- and what is missing, with a minus sign, where it is larger
pub difference-missing : (a b : ℕ) → a < b → pos a -ℤ pos b ≡ negsuc (b - suc a)
difference-missing a zero h = absurd (omega arith)
difference-missing a (suc b) h = simp (lt-ltb a (suc b) h)

module _ (w : Width) (a b : ℕ) (low : a < 2 ^ hbits w) (high : b < 2 ^ hbits w) where
  small : mag (pos a -ℤ pos b) < 2 ^ hbits w
  small = go (dec_le b a)
    where
      go : Dec (b ≤ a) → mag (pos a -ℤ pos b) < 2 ^ hbits w
      go (yes h) = rw (difference-left a b h) (omega arith)
      go (no h) = rw (difference-missing a b (omega arith)) (omega arith)

  as_is : to_z w a -ℤ to_z w b ≡ pos a -ℤ pos b
  as_is = ap₂ ◌-ℤ◌ (to_z_pos w {n = a} low) (to_z_pos w {n = b} high)

  pub difference-fits : SFits w (to_z w a -ℤ to_z w b)
  difference-fits = subst (SFits w) (sym as_is) (record { sfits = small })

  pub difference : to_z w (of_z w (to_z w a -ℤ to_z w b)) ≡ pos a -ℤ pos b
  difference = to_z-of_z difference-fits ∙ as_is
