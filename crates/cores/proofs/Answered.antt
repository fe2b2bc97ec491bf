-- The answer of `place`: refused, or first fit over the sheet's table. Assumes nothing.
use Prim.Native.Nat.{ℕ, ◌≤◌}
use mathlib.Core.Path.{◌≡◌, refl, sym, ap, ap₂, ◌∙◌}
use mathlib.Core.Bool.{Bool, true, false, cond}
use mathlib.Core.List.{List}
use native.Mathlib.Omega.{arith}
use borrow.Author.Tests.{ne_eqb}
use Rattle.std.specs.Prelude.{Ok, Err}
use Rattle.places.specs.declared.refusal.Refusal.{Refusal}
use Rattle.places.specs.Answered.{answered}
use Rattle.places.proofs.Refusals.{none_of}
use Rattle.places.proofs.Answered.{good_of, value_of, broken_of, refusal_of}
use Rattle.sheet.specs.declared.Table.{Table}
use Rattle.sheet.specs.Layout.{table_of}
use Rattle.sheet.specs.Rules.{outside, table_refusal, whole_sheet_refusal}
use Rattle.sheet.proofs.Cases.{within}
use Rattle.sheet.proofs.Demands.{table-good}
use Rattle.sheet.proofs.Told.{whole-good}
use Rattle.analysis.specs.Common.Entries.{own_tasks}
use Rattle.cores.specs.Told.{fit_told, placing_told}
use Rattle.cores.specs.Answers.{number_refusal, box_refusal, placing_of, placing_answer}

-- a number of cores that is not refused is from 1 to 4
pub number-within : (number : ℕ) → number_refusal number ≡ 0 → (1 ≤ number) × (number ≤ 4)
unfolding number_refusal
number-within number e = within number 4 (go (outside number 4) e)
  where
    go : (b : Bool) → ◌≡◌ {A = ℕ} (cond b 23 0) 0 → b ≡ false
    go true z = absurd (omega arith)
    go false z = refl

module _ (sheet : List ℕ) (number : ℕ) where
  -- refused, that refusal
  pub place-refused : {e : Refusal} → Err e ≡ answered (box_refusal sheet number) (table_of sheet) → Err e ≡ placing_told (placing_answer sheet number)
  unfolding placing_answer placing_of fit_told
  place-refused read = ap Err (refusal_of _ _ read) ∙ simp (ne_eqb (box_refusal sheet number) 0 (broken_of _ _ read))

  module _ {table : Table} (read : Ok table ≡ answered (box_refusal sheet number) (table_of sheet)) where
    fine : (whole_sheet_refusal sheet ≡ 0) × (number_refusal number ≡ 0)
    unfolding box_refusal
    fine = none_of (whole_sheet_refusal sheet) (number_refusal number) (good_of _ _ read)

    -- what is read is good, and the number at most 4
    pub place-good : (table_refusal table ≡ 0) × (number ≤ 4)
    place-good = (ap table_refusal (value_of _ _ read) ∙ table-good sheet (whole-good sheet fine.0), (number-within number fine.1).1)

    pub place-fitted : placing_of 0 (own_tasks table) number ≡ placing_answer sheet number
    unfolding placing_answer
    place-fitted = ap₂ (λ (r : ℕ) (t : Table). placing_of r (own_tasks t) number) (sym (good_of _ _ read)) (value_of _ _ read)
