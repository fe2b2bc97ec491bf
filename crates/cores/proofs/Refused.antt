-- What stands in each answer of `place`, and when 19 and 23 are given: after a sheet's own, in that order. Assumes nothing.
use Prim.Native.Nat.{ℕ, ◌≤◌, ◌<◌}
use mathlib.Core.Path.{◌≡◌, refl, sym, ◌∙◌}
use mathlib.Core.Bool.{Bool, true, false, cond}
use mathlib.Core.List.{List}
use mathlib.Core.Logic.{◌↔◌, ⊎_elim}
use native.Mathlib.Decide.{ℕ_discrete}
use native.Mathlib.Omega.{arith}
use borrow.Author.Tests.{eqb-true, eqb-false}
use lib.Dec.{eqb}
use lib.ListN.{length, get_or, replicate}
use Rattle.places.proofs.Tells.{Tells, holds, fails}
use Rattle.places.proofs.Filled.{filled_at, length-filled, alike_at, filled-past}
use Rattle.places.proofs.Refusals.{next-of, first_of}
use Rattle.sheet.specs.Layout.{table_of}
use Rattle.sheet.specs.Rules.{outside, sheet_refusal, shared_refusal, whole_sheet_refusal}
use Rattle.sheet.specs.Broken.{Outside}
use Rattle.sheet.proofs.Order.{sheet-in-order, whole-in-order, whole_tells}
use Rattle.sheet.proofs.Refused.{given-unless}
use Rattle.sheet.proofs.Cases.{outside-tells}
use Rattle.analysis.specs.Common.Tasks.{Tasks}
use Rattle.cores.specs.Told.{Placing}
use Rattle.cores.specs.Told.Fit.{Refused, Everyone, FitsNone}
use Rattle.cores.specs.FirstFit.{core_of, fits_none}
use Rattle.cores.specs.Answers.{number_refusal, box_refusal, cores_of, placing_of}

module _ (refusal : ℕ) (s : Tasks) (number : ℕ) where
  abbrev answer : Placing
  answer = placing_of refusal s number

  abbrev pick : Bool → Bool → Placing
  pick fine fitted = cond fine (cond fitted (record { fit = Everyone; cores = cores_of s number }) (record { fit = FitsNone (fits_none s number); cores = replicate 8 0 })) (record { fit = Refused refusal; cores = replicate 8 0 })

  -- a core for every record: nothing is refused, no record fits none, and the cores are theirs
  pub everyone-told : answer.fit ≡ Everyone → (refusal ≡ 0) × (fits_none s number ≡ 0) × (answer.cores ≡ cores_of s number)
  unfolding placing_of
  everyone-told told = go (eqb refusal 0) (eqb (fits_none s number) 0) (eqb-true refusal 0) (eqb-true (fits_none s number) 0) told
    where
      go : (a b : Bool) → (a ≡ true → refusal ≡ 0) → (b ≡ true → fits_none s number ≡ 0) → (pick a b).fit ≡ Everyone → (refusal ≡ 0) × (fits_none s number ≡ 0) × ((pick a b).cores ≡ cores_of s number)
      go true true is fits e = (is refl, fits refl, refl)
      go true false is fits e = let z : ◌≡◌ {A = ℕ} 0 1 = cc in absurd (omega arith)
      go false b is fits e = let z : ◌≡◌ {A = ℕ} 0 1 = cc in absurd (omega arith)

  -- those of a table of up to eight records stand in record order, in room for eight, and past the count there are zeros
  pub cores-placed : s.count ≤ 8 → (length (cores_of s number) ≡ 8) × ((k : ℕ) → k < s.count → get_or (cores_of s number) k 0 ≡ core_of s number k) × ((k : ℕ) → s.count ≤ k → get_or (cores_of s number) k 0 ≡ 0)
  unfolding cores_of
  cores-placed few = (
    length-filled (core_of s number) s.count (replicate 8 0),
    λ k below. filled_at (core_of s number) s.count (replicate 8 0) 0 few k below,
    λ k past. filled-past (core_of s number) s.count (replicate 8 0) 0 k past ∙ alike_at 0 8 k,
  )

  -- a record that fits none: nothing is refused, it is the first, and no cores are given
  pub none_told : (first : ℕ) → answer.fit ≡ FitsNone first → (refusal ≡ 0) × (fits_none s number ≡ first) × (1 ≤ first) × (answer.cores ≡ replicate 8 0)
  unfolding placing_of
  none_told first told = go (eqb refusal 0) (eqb (fits_none s number) 0) (eqb-true refusal 0) (eqb-false (fits_none s number) 0) told
    where
      go : (a b : Bool) → (a ≡ true → refusal ≡ 0) → (b ≡ false → fits_none s number ≡ 0 → ⊥) → (pick a b).fit ≡ FitsNone first → (refusal ≡ 0) × (fits_none s number ≡ first) × (1 ≤ first) × ((pick a b).cores ≡ replicate 8 0)
      go true true is fits e = let z : ◌≡◌ {A = ℕ} 0 1 = cc in absurd (omega arith)
      go true false is fits e =
          let same : fits_none s number ≡ first = cc in
          let some = fits refl in
          (is refl, same, omega arith, refl)
      go false b is fits e = let z : ◌≡◌ {A = ℕ} 0 1 = cc in absurd (omega arith)

  -- refused: the number, and no cores
  pub refused-told : (number-told : ℕ) → answer.fit ≡ Refused number-told → (refusal ≡ number-told) × (1 ≤ number-told) × (answer.cores ≡ replicate 8 0)
  unfolding placing_of
  refused-told number-told told = go (eqb refusal 0) (eqb (fits_none s number) 0) (eqb-false refusal 0) told
    where
      go : (a b : Bool) → (a ≡ false → refusal ≡ 0 → ⊥) → (pick a b).fit ≡ Refused number-told → (refusal ≡ number-told) × (1 ≤ number-told) × ((pick a b).cores ≡ replicate 8 0)
      go true true is e = let z : ◌≡◌ {A = ℕ} 0 1 = cc in absurd (omega arith)
      go true false is e = let z : ◌≡◌ {A = ℕ} 0 1 = cc in absurd (omega arith)
      go false b is e =
          let same : refusal ≡ number-told = cc in
          let some = is refl in
          (same, omega arith, refl)

module _ (sheet : List ℕ) (number : ℕ) where
  -- a refusal of the start is none of these
  start-other : (n : ℕ) → 19 < n → whole_sheet_refusal sheet ≡ n → ⊥
  start-other n above e = ⊎_elim (λ z. omega arith) (⊎_elim (⊎_elim (λ h. omega (arith, h)) (λ h. omega (arith, h))) (λ h. omega (arith, h))) (whole-in-order sheet).range

  -- 19 exactly if the sheet is good and the processor shared
  pub box-19 : (box_refusal sheet number ≡ 19) ↔ ((sheet_refusal sheet ≡ 0) × (((table_of sheet).round ≡ 1) × ((table_of sheet).share ≡ 1) → ⊥))
  unfolding box_refusal whole_sheet_refusal shared_refusal number_refusal
  box-19 = (λ e. given.0 (go (ℕ_discrete (whole_sheet_refusal sheet) 0) e), λ h. first_of _ _ (λ z. omega (arith, given.1 h)) ∙ given.1 h)
    where
      given : (whole_sheet_refusal sheet ≡ 19) ↔ ((sheet_refusal sheet ≡ 0) × (((table_of sheet).round ≡ 1) × ((table_of sheet).share ≡ 1) → ⊥))
      given = given-unless (sheet_refusal sheet) 19 (sheet-in-order sheet).range (omega arith) (whole_tells (table_of sheet).round (table_of sheet).share)

      other : (b : Bool) → ◌≡◌ {A = ℕ} (cond b 23 0) 19 → ⊥
      other true e = omega arith
      other false e = omega arith

      go : Dec (whole_sheet_refusal sheet ≡ 0) → box_refusal sheet number ≡ 19 → whole_sheet_refusal sheet ≡ 19
      go (yes z) e = absurd (other (outside number 4) (sym (next-of _ z) ∙ e))
      go (no z) e = sym (first_of _ _ z) ∙ e

  -- "then 23 for a core count outside 1 to 4": exactly if the sheet is not refused so far and the number is 0 or above 4
  pub box-23 : (box_refusal sheet number ≡ 23) ↔ ((whole_sheet_refusal sheet ≡ 0) × Outside number 4)
  unfolding box_refusal number_refusal
  box-23 = (λ e. go (ℕ_discrete (whole_sheet_refusal sheet) 0) e, λ h. next-of _ h.0 ∙ (told (outside-tells number 4)).1 h.1)
    where
      told : {b : Bool} → Tells (Outside number 4) b → (◌≡◌ {A = ℕ} (cond b 23 0) 23) ↔ Outside number 4
      told (holds p) = (λ e. p, λ h. refl)
      told (fails n) = (λ e. absurd (omega arith), λ h. absurd (n h))

      go : Dec (whole_sheet_refusal sheet ≡ 0) → box_refusal sheet number ≡ 23 → (whole_sheet_refusal sheet ≡ 0) × Outside number 4
      go (yes z) e = (z, (told (outside-tells number 4)).0 (sym (next-of _ z) ∙ e))
      go (no z) e = absurd (start-other 23 (omega arith) (sym (first_of _ _ z) ∙ e))
