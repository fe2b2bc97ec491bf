-- The refusal of `decide` is given in the order of the rows of specs/Broken.antt. Assumes nothing.
use Prim.Native.Nat.{ℕ, ◌≤◌, ◌<◌}
use mathlib.Core.Path.{◌≡◌, refl, ap, ◌∙◌}
use mathlib.Core.Bool.{Bool, true, false, cond, not}
use mathlib.Core.Logic.{◌⊎◌, inl, inr}
use mathlib.Core.List.{List, ◌++◌}
use native.Mathlib.Omega.{arith}
use lib.Dec.{eqb}
use Rattle.places.specs.Refusals.{or_else, InOrder}
use Rattle.places.proofs.Answered.{Known}
use Rattle.places.proofs.Tells.{Tells, tells-iff, leb_tells, eqb_tells, not-tells, and-tells}
use Rattle.places.proofs.Some.{some-tells}
use Rattle.places.proofs.Order.{Says, says_none, says_row, says-wider, says-joined, in_order}
use Rattle.sheet.specs.Layout.{table_of}
use Rattle.sheet.specs.Rules.{sheet_refusal}
use Rattle.sheet.specs.Broken.{sheet_rows}
use Rattle.sheet.proofs.Order.{rule-positive, sheet-says}
use Rattle.release.specs.Rules.{is_protected, some_outside}
use Rattle.release.specs.Told.{Decision}
use Rattle.release.specs.Answers.{decision}
use Rattle.release.specs.Broken.{Protected, pair_rows, decision_rows, DecisionNumber}
use Rattle.release.proofs.Decided.{tried, decision-tried}

-- `is_protected` tells that the place's bit is set
pub protected-tells : (protected place : ℕ) → Tells (Protected protected place) (is_protected protected place)
unfolding is_protected
protected-tells protected place = eqb_tells _ 1

-- `some_outside` tells that a protected place is not below the count
pub outside-tells : (protected count : ℕ) → Tells ((place : ℕ) × (place < 8) × (count ≤ place) × Protected protected place) (some_outside protected count)
unfolding some_outside
outside-tells protected count = tells-iff (λ w. (w.0, w.1, w.2.0, w.2.1)) (λ w. (w.0, w.1, (w.2, w.3))) (some-tells (λ place. and-tells (leb_tells count place) (protected-tells protected place)) 8)

number-positive : (r : ℕ) → DecisionNumber r → 0 < r
number-positive r (inl k) = rule-positive r k
number-positive r (inr (inl e)) = omega arith
number-positive r (inr (inr e)) = omega arith

-- the refusal by itself, its tests one after the other
tried-refusal : (a b d e l : Bool) (first second : ℕ) → (tried a b d e l first second).refusal ≡ cond a (cond b (cond (not d) 24 (cond e 12 0)) second) first
unfolding tried
tried-refusal true true true true l first second = refl
tried-refusal true true true false l first second = refl
tried-refusal true true false e l first second = refl
tried-refusal true false d e l first second = refl
tried-refusal false b d e l first second = refl

module _ (in_use candidate : List ℕ) (protected : ℕ) where
  refusal_is : (decision in_use candidate protected).refusal
      ≡ or_else (sheet_refusal in_use)
      (or_else (sheet_refusal candidate) (cond (not (eqb (table_of in_use).count (table_of candidate).count)) 24 (cond (some_outside protected (table_of in_use).count) 12 0)))
  unfolding or_else
  refusal_is = ap (λ (d : Decision). d.refusal) (decision-tried in_use candidate protected) ∙ tried-refusal _ _ _ _ _ _ _

  pair-says : Says DecisionNumber (pair_rows in_use candidate protected) (cond (not (eqb (table_of in_use).count (table_of candidate).count)) 24 (cond (some_outside protected (table_of in_use).count) 12 0))
  unfolding pair_rows
  pair-says =
      says_row (inr (inl refl)) (not-tells (eqb_tells (table_of in_use).count (table_of candidate).count)) (λ matched.
      says_row (inr (inr refl)) (outside-tells protected (table_of in_use).count) (λ within. says_none))

  -- "Refusals, first sheet first: a sheet's, 24 different counts, 12 a protected place outside": the number is given in the order of the rows
  pub decision-in-order : InOrder DecisionNumber (decision_rows in_use candidate protected) (decision in_use candidate protected).refusal
  decision-in-order =
      rw refusal_is
      (in_order number-positive
      (says-joined number-positive (sheet_rows in_use) (sheet_rows candidate ++ pair_rows in_use candidate protected) (says-wider (λ r k. inl k) (sheet-says in_use)) (says-joined number-positive (sheet_rows candidate) (pair_rows in_use candidate protected) (says-wider (λ r k. inl k) (sheet-says candidate)) pair-says)))

  -- so it is a number of the tables
  pub decision-known : Known (decision in_use candidate protected).refusal
  decision-known = go decision-in-order.range
    where
      go : {r : ℕ} → (r ≡ 0) ⊎ DecisionNumber r → Known r
      go (inl none) = inl none
      go (inr (inl (inl few))) = inr (inl (few.0, omega (arith, few.1)))
      go (inr (inl (inr is))) = inr (inl (omega (arith, is), omega (arith, is)))
      go (inr (inr (inl is))) = inr (inl (omega (arith, is), omega (arith, is)))
      go (inr (inr (inr is))) = inr (inl (omega (arith, is), omega (arith, is)))
