-- What a decision says: a refused one loads nothing, any other is the release rule's. Assumes nothing.
use Prim.Native.Nat.{ℕ}
use mathlib.Core.Path.{◌≡◌, refl, sym, ap, subst, ◌∙◌}
use mathlib.Core.Bool.{Bool, true, false, cond}
use mathlib.Core.List.{List}
use native.Mathlib.Omega.{arith}
use borrow.Author.Tests.{eq-eqb, eqb-true, eqb-false}
use lib.Dec.{eqb}
use Rattle.sheet.specs.Layout.{table_of}
use Rattle.sheet.specs.Rules.{sheet_refusal}
use Rattle.release.specs.Told.{Decision}
use Rattle.release.specs.Rules.{some_outside}
use Rattle.release.specs.Answers.{refused_with, is_loaded, decided, decision}

-- a decision by its four tests and the rule, in the order they are tried, with the refusals of the two sheets
unfoldable pub tried : (in_use candidate matched outside loads : Bool) (first second : ℕ) → Decision
tried in_use candidate matched outside loads first second =
    cond in_use (cond candidate (cond matched (cond outside (refused_with 12) (record { refusal = 0; loads = loads })) (refused_with 24)) (refused_with second)) (refused_with first)

pub decision-tried : (in_use candidate : List ℕ) (protected : ℕ)
    → decision in_use candidate protected
    ≡ tried (eqb (sheet_refusal in_use) 0) (eqb (sheet_refusal candidate) 0) (eqb (table_of in_use).count (table_of candidate).count) (some_outside protected (table_of in_use).count) (is_loaded (table_of in_use) (table_of candidate) protected)
    (sheet_refusal in_use) (sheet_refusal candidate)
unfolding decision decided tried
decision-tried in_use candidate protected = refl

tried-keeps : (a b d e l : Bool) (first second : ℕ) → ((tried a b d e l first second).refusal ≡ 0 → ⊥) → (tried a b d e l first second).loads ≡ false
unfolding tried
tried-keeps true true true true l first second broken = refl
tried-keeps true true true false l first second broken = absurd (broken refl)
tried-keeps true true false e l first second broken = refl
tried-keeps true false d e l first second broken = refl
tried-keeps false b d e l first second broken = refl

pub refused-keeps : (in_use candidate : List ℕ) (protected : ℕ) → ((decision in_use candidate protected).refusal ≡ 0 → ⊥) → (decision in_use candidate protected).loads ≡ false
refused-keeps in_use candidate protected = subst (λ (d : Decision). (d.refusal ≡ 0 → ⊥) → d.loads ≡ false) (sym (decision-tried in_use candidate protected)) (tried-keeps _ _ _ _ _ _ _)

-- what a decision that is not refused says of the two sheets, and that the release rule decides it
pub record Settled (in_use candidate : List ℕ) (protected : ℕ) : Type 0 where
  pub used : sheet_refusal in_use ≡ 0
  pub offered : sheet_refusal candidate ≡ 0
  pub matched : (table_of in_use).count ≡ (table_of candidate).count
  pub within : some_outside protected (table_of in_use).count ≡ false
  pub rule : (decision in_use candidate protected).loads ≡ is_loaded (table_of in_use) (table_of candidate) protected

tried-settles : (a b d e l : Bool) (first second : ℕ) → (a ≡ false → first ≡ 0 → ⊥) → (b ≡ false → second ≡ 0 → ⊥) → (tried a b d e l first second).refusal ≡ 0
    → (a ≡ true) × (b ≡ true) × (d ≡ true) × (e ≡ false) × ((tried a b d e l first second).loads ≡ l)
unfolding tried
tried-settles true true true true l first second f s none = absurd (omega (arith, none))
tried-settles true true true false l first second f s none = (refl, refl, refl, refl, refl)
tried-settles true true false e l first second f s none = absurd (omega (arith, none))
tried-settles true false d e l first second f s none = absurd (s refl none)
tried-settles false b d e l first second f s none = absurd (f refl none)

pub settled : (in_use candidate : List ℕ) (protected : ℕ) → (decision in_use candidate protected).refusal ≡ 0 → Settled in_use candidate protected
settled in_use candidate protected none =
    let same = decision-tried in_use candidate protected in
    let w = tried-settles _ _ _ _ _ _ _ (eqb-false (sheet_refusal in_use) 0) (eqb-false (sheet_refusal candidate) 0) (sym (ap (λ (d : Decision). d.refusal) same) ∙ none) in
    record { used = eqb-true _ 0 w.0; offered = eqb-true _ 0 w.1; matched = eqb-true _ _ w.2; within = w.3; rule = ap (λ (d : Decision). d.loads) same ∙ w.4 }

-- and the other way round: such a pair of sheets is not refused
pub unrefused : (in_use candidate : List ℕ) (protected : ℕ) → sheet_refusal in_use ≡ 0 → sheet_refusal candidate ≡ 0 → (table_of in_use).count ≡ (table_of candidate).count → some_outside protected (table_of in_use).count ≡ false
    → decision in_use candidate protected ≡ record { refusal = 0; loads = is_loaded (table_of in_use) (table_of candidate) protected }
unfolding tried
unrefused in_use candidate protected used offered matched within =
    decision-tried in_use candidate protected
    ∙ simp (eq-eqb (sheet_refusal in_use) 0 used, eq-eqb (sheet_refusal candidate) 0 offered, eq-eqb (table_of in_use).count (table_of candidate).count matched, within)
