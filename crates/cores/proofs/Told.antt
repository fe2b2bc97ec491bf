-- What a caller learns of an answer of `place`: the refusal by its number, each record's core, or the first record that fits none. Assumes nothing.
use Prim.Native.Nat.{ℕ, ◌≤◌}
use mathlib.Core.Path.{◌≡◌, refl, sym, ap, ◌∙◌}
use mathlib.Core.List.{List}
use mathlib.Core.Logic.{inl}
use native.Mathlib.Omega.{arith}
use Rattle.std.specs.Prelude.{Ok, Err}
use Rattle.places.specs.declared.refusal.Refusal.{Refusal}
use Rattle.places.specs.Answered.{number_of, numbered}
use Rattle.places.proofs.Answered.{err_numbered, told_number, Known, known_else, known_if}
use Rattle.sheet.specs.Layout.{table_of}
use Rattle.sheet.specs.Rules.{outside}
use Rattle.sheet.proofs.Told.{whole-known}
use Rattle.analysis.specs.Common.Tasks.{Tasks}
use Rattle.analysis.specs.Common.Entries.{own_tasks}
use Rattle.cores.specs.declared.Placing.TheVariants as put
use Rattle.cores.specs.Told.{Fit, fit_told, placing_told}
use Rattle.cores.specs.Told.Fit.{Refused, Everyone, FitsNone}
use Rattle.cores.specs.FirstFit.{fits_none}
use Rattle.cores.specs.Answers.{number_refusal, box_refusal, cores_of, placing_answer}
use Rattle.cores.proofs.Refused.{everyone-told, none_told, refused-told}

-- what each answer was told from
refused_from : (fit : Fit) (cores : List ℕ) {e : Refusal} → Err e ≡ fit_told fit cores → (n : ℕ) × (fit ≡ Refused n) × (e ≡ numbered n)
unfolding fit_told
refused_from (Refused n) cores is = (n, refl, cc is)
refused_from Everyone cores is = absurd (cc is)
refused_from (FitsNone first) cores is = absurd (cc is)

everyone_from : (fit : Fit) (cores : List ℕ) {given : List ℕ} → Ok (put.Everyone given) ≡ fit_told fit cores → (fit ≡ Everyone) × (given ≡ cores)
unfolding fit_told
everyone_from (Refused n) cores is = absurd (cc is)
everyone_from Everyone cores is = (refl, cc is)
everyone_from (FitsNone first) cores is = absurd (cc is)

none_from : (fit : Fit) (cores : List ℕ) {first : ℕ} → Ok (put.FitsNone first) ≡ fit_told fit cores → fit ≡ FitsNone first
unfolding fit_told
none_from (Refused n) cores is = absurd (cc is)
none_from Everyone cores is = absurd (cc is)
none_from (FitsNone first) cores is = cc is

module _ (sheet : List ℕ) (number : ℕ) where
  abbrev s : Tasks
  s = own_tasks (table_of sheet)

  -- the refusal of a sheet and a number is a number of the tables
  box-known : Known (box_refusal sheet number)
  unfolding box_refusal number_refusal
  box-known = known_else (whole-known sheet) (known_if (outside number 4) 23 (inl (omega arith, omega arith)))

  -- refused: that number, which is not 0
  pub told-refused : {e : Refusal} → Err e ≡ placing_told (placing_answer sheet number) → (number_of e ≡ box_refusal sheet number) × (box_refusal sheet number ≡ 0 → ⊥)
  unfolding placing_answer
  told-refused is =
      let from = refused_from _ _ is in
      let told = refused-told (box_refusal sheet number) s number from.0 from.1 in
      let broken : box_refusal sheet number ≡ 0 → ⊥ = λ none. omega (arith, told.0, told.1) in
      (told_number _ (tt {0}) box-known (err_numbered _ tt broken (from.2 ∙ ap numbered (sym told.0))), broken)

  -- a core for every record: the cores of first fit
  pub told-everyone : {cores : List ℕ} → Ok (put.Everyone cores) ≡ placing_told (placing_answer sheet number) → (box_refusal sheet number ≡ 0) × (fits_none s number ≡ 0) × (cores ≡ cores_of s number)
  unfolding placing_answer
  told-everyone is =
      let from = everyone_from _ _ is in
      let told = everyone-told (box_refusal sheet number) s number from.0 in
      (told.0, told.1, from.1 ∙ told.2)

  -- a record that fits none: it is the first
  pub told-none : {first : ℕ} → Ok (put.FitsNone first) ≡ placing_told (placing_answer sheet number) → (box_refusal sheet number ≡ 0) × (fits_none s number ≡ first) × (1 ≤ first)
  unfolding placing_answer
  told-none {first} is =
      let told = none_told (box_refusal sheet number) s number first (none_from _ _ is) in
      (told.0, told.1, told.2)
