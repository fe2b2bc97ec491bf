-- What a Bool test tells of a proposition: that it holds, or that it fails; and two tests together. Assumes nothing.
use Prim.Native.Nat.{ℕ, ◌≤◌, ◌<◌}
use mathlib.Core.Path.{◌≡◌, refl, sym}
use mathlib.Core.Bool.{Bool, true, false, not, ◌&&◌, ◌||◌, true≢false, false≢true, and-eq-true_iff}
use mathlib.Core.Logic.{◌⊎◌, inl, inr, ⊎_elim}
use native.Mathlib.Omega.{arith}
use lib.Dec.{ltb, leb, eqb}
use borrow.Author.Tests.{ltb-true, ltb-false, leb-true, leb-false, eqb-true, eqb-false}

-- the test's value is true and the proposition holds, or it is false and the proposition fails
pub data Tells (P : Type 0) : Bool → Type 0 where
  holds : P → Tells P true
  fails : (P → ⊥) → Tells P false

-- a test tells a proposition that holds where it is true and fails where it is false
pub tells : {P : Type 0} (b : Bool) → (b ≡ true → P) → (b ≡ false → P → ⊥) → Tells P b
tells true yes-if no-if = holds (yes-if refl)
tells false yes-if no-if = fails (no-if refl)

-- a test that tells a proposition tells any equivalent one
pub tells-iff : {P Q : Type 0} {b : Bool} → (P → Q) → (Q → P) → Tells P b → Tells Q b
tells-iff f g (holds p) = holds (f p)
tells-iff f g (fails n) = fails (λ q. n (g q))

-- what a test tells where its value is known, its value where the proposition holds or fails, and that two tests that tell the same have the same value
pub told : {P : Type 0} {b : Bool} → Tells P b → b ≡ true → P
told (holds p) e = p
told (fails n) e = absurd (true≢false (sym e))

pub denied : {P : Type 0} {b : Bool} → Tells P b → b ≡ false → P → ⊥
denied (holds p) e = absurd (true≢false e)
denied (fails n) e = n

pub shown : {P : Type 0} {b : Bool} → Tells P b → P → b ≡ true
shown (holds p) q = refl
shown (fails n) q = absurd (n q)

pub unshown : {P : Type 0} {b : Bool} → Tells P b → (P → ⊥) → b ≡ false
unshown (holds p) n = absurd (n p)
unshown (fails m) n = refl

pub tells-same : {P : Type 0} {a b : Bool} → Tells P a → Tells P b → a ≡ b
tells-same (holds p) (holds q) = refl
tells-same (holds p) (fails n) = absurd (n p)
tells-same (fails n) (holds p) = absurd (n p)
tells-same (fails n) (fails m) = refl

-- `ltb` tells <
pub ltb-tells : (a b : ℕ) → Tells (a < b) (ltb a b)
ltb-tells a b = tells (ltb a b) (ltb-true a b) (λ e h. omega (arith, ltb-false a b e))

-- `leb` tells ≤
pub leb_tells : (a b : ℕ) → Tells (a ≤ b) (leb a b)
leb_tells a b = tells (leb a b) (leb-true a b) (λ e h. omega (arith, leb-false a b e))

-- `eqb` tells ≡
pub eqb_tells : (a b : ℕ) → Tells (a ≡ b) (eqb a b)
eqb_tells a b = tells (eqb a b) (eqb-true a b) (eqb-false a b)

-- `not` tells that the test's proposition fails
pub not-tells : {P : Type 0} {b : Bool} → Tells P b → Tells (P → ⊥) (not b)
not-tells (holds p) = fails (λ n. n p)
not-tells (fails n) = holds n

-- `||` tells that one of the two holds
pub or-tells : {P Q : Type 0} {a b : Bool} → Tells P a → Tells Q b → Tells (P ⊎ Q) (a || b)
or-tells (holds p) t = holds (inl p)
or-tells (fails n) t = tells-iff inr (⊎_elim (λ p. absurd (n p)) (λ q. q)) t

-- `&&` tells that both hold
pub and-tells : {P Q : Type 0} {a b : Bool} → Tells P a → Tells Q b → Tells (P × Q) (a && b)
and-tells (holds p) t = tells-iff (λ q. (p, q)) (λ h. h.1) t
and-tells (fails n) t = fails (λ h. n h.0)

-- a test tells that it is true
pub tests : (b : Bool) → Tells (b ≡ true) b
tests true = holds refl
tests false = fails false≢true

-- where neither of two tests holds, each fails
pub neither : (a b : Bool) → (a || b) ≡ false → (a ≡ false) × (b ≡ false)
neither true b e = absurd (true≢false e)
neither false b e = (refl, e)

-- where both hold, each does
pub both_true : (a b : Bool) → (a && b) ≡ true → (a ≡ true) × (b ≡ true)
both_true a b e = (and-eq-true_iff a b).0 e

-- and where each holds, both do
pub true-both : (a b : Bool) → a ≡ true → b ≡ true → (a && b) ≡ true
true-both a b d e = (and-eq-true_iff a b).1 (d, e)
