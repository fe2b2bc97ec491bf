-- A call whose refusal is that of what is asked and last 11, where the lent output has no room: what it answers and leaves in each case, for every value and output. Assumes nothing.
use Prim.Native.Nat.{ℕ}
use mathlib.Core.Path.{◌≡◌, refl, sym, ap, ◌∙◌}
use mathlib.Core.Bool.{Bool, true, false, cond}
use mathlib.Core.List.{List}
use mathlib.Core.Logic.{◌↔◌}
use native.Mathlib.Decide.{ℕ_discrete}
use native.Mathlib.Omega.{arith}
use borrow.Author.Tests.{ne_eqb}
use lib.Dec.{eqb}
use lib.IntN.{ℤ}
use Rattle.places.specs.Refusals.{or_else}
use Rattle.places.proofs.Tells.{Tells, holds, fails}
use Rattle.places.proofs.Refusals.{first_of, next-of}
use Rattle.fidhaqooban.specs.Numbers.{answer_of}
use Rattle.fidhaqooban.proofs.Answered.{answered}

module _ {A : Type 0} (refusal : ℕ) (short : Bool) (value : ℕ) (out filled : List A) where
  abbrev whole : ℕ
  whole = or_else refusal (cond short 11 0)

  -- the answer and the output of a call
  abbrev pub Lent : ℤ → List A → Type 0
  Lent answer left = (answer ≡ answer_of whole value) × (left ≡ cond (eqb whole 0) filled out)

  -- a refusal gives minus its number beside the output as it was
  refused : (number : ℕ) → (number ≡ 0 → ⊥) → number ≡ whole → Lent (answer_of number 0) out
  refused number broken is = (answered number 0 value (λ none. absurd (broken none)) ∙ ap (λ (r : ℕ). answer_of r value) is, simp (ne_eqb whole 0 (λ none. broken (is ∙ none))))

  -- what is asked is refused first
  pub asked-refused : (refusal ≡ 0 → ⊥) → Lent (answer_of refusal 0) out
  asked-refused broken = refused refusal broken (sym (first_of refusal _ broken))

  module _ (fine : refusal ≡ 0) where
    -- then 11
    pub no_room : short ≡ true → Lent (answer_of 11 0) out
    no_room is = refused 11 (λ e. omega arith) (sym (next-of _ fine ∙ ap (λ (b : Bool). cond b 11 0) is))

    -- else the value beside the output as it is filled
    pub given : short ≡ false → Lent (answer_of 0 value) filled
    given is =
        let none : whole ≡ 0 = next-of _ fine ∙ ap (λ (b : Bool). cond b 11 0) is in
        simp none (refl, refl)

-- 11 exactly if what is asked is not refused and there is no room
pub last-11 : (refusal : ℕ) → (refusal ≡ 11 → ⊥) → {P : Type 0} {short : Bool} → Tells P short → (or_else refusal (cond short 11 0) ≡ 11) ↔ ((refusal ≡ 0) × P)
last-11 refusal other side = go (ℕ_discrete refusal 0) side
  where
    go : {P : Type 0} {short : Bool} → Dec (refusal ≡ 0) → Tells P short → (or_else refusal (cond short 11 0) ≡ 11) ↔ ((refusal ≡ 0) × P)
    go (yes z) (holds empty) = (λ e. (z, empty), λ h. next-of 11 z)
    go (yes z) (fails some) = (λ e. absurd (omega (arith, next-of 0 z)), λ h. absurd (some h.1))
    go (no z) t = (λ e. absurd (other (sym (first_of _ _ z) ∙ e)), λ h. absurd (z h.0))
