-- What `fq_cores` answers and leaves in each of its cases, by what `place` answered. Assumes nothing.
use Prim.Native.Nat.{ℕ, ◌≤◌, ◌<◌}
use mathlib.Core.Path.{◌≡◌, refl, sym, ap, ◌∙◌}
use mathlib.Core.Bool.{and-false}
use mathlib.Core.List.{List, ◌++◌}
use native.Mathlib.Omega.{arith}
use borrow.Author.Tests.{ne_eqb, lt-ltb, le-ltb}
use lib.Dec.{eqb}
use lib.IntN.{ℤ}
use lib.ListN.{length, take, drop}
use Rattle.std.specs.Prelude.{Ok, Err}
use Rattle.places.specs.declared.refusal.Refusal.{Refusal}
use Rattle.places.specs.Answered.{number_of}
use Rattle.places.proofs.Refusals.{first_of, next-of, none_of}
use Rattle.sheet.specs.Layout.{count_of, table_of}
use Rattle.sheet.specs.Rules.{sheet_refusal, whole_sheet_refusal}
use Rattle.analysis.specs.Common.Entries.{own_tasks}
use Rattle.cores.specs.declared.Placing.TheVariants as put
use Rattle.cores.specs.Told.{placing_told}
use Rattle.cores.specs.Answers.{box_refusal, cores_of, placing_answer}
use Rattle.cores.proofs.Told.{told-refused, told-none, told-everyone}
use Rattle.fidhaqooban.specs.Numbers.{answer_of}
use Rattle.fidhaqooban.specs.Answers.{first_out, cores_refusal, cores_number, cores_left}

module _ (sheet : List ℕ) (number : ℕ) (out : List ℕ) where
  -- the answer and the output of a call
  abbrev pub Settled : ℤ → List ℕ → Type 0
  Settled answer left = (answer ≡ cores_number sheet number out) × (left ≡ cores_left sheet number out)

  -- refused, minus the number beside the output as it was
  pub refused-cores : (refusal : ℕ) → (refusal ≡ 0 → ⊥) → cores_refusal sheet number out ≡ refusal → Settled (answer_of refusal 0) out
  unfolding cores_number cores_left answer_of
  refused-cores refusal broken is = rw is (simp (ne_eqb refusal 0 broken) (refl, refl))

  -- where a record fits none, no room is asked for
  none-fine : box_refusal sheet number ≡ 0 → (first_out sheet number ≡ 0 → ⊥) → cores_refusal sheet number out ≡ 0
  unfolding cores_refusal
  none-fine good other = next-of _ good ∙ simp (ne_eqb (first_out sheet number) 0 other)

  room-fine : box_refusal sheet number ≡ 0 → count_of sheet ≤ length out → cores_refusal sheet number out ≡ 0
  unfolding cores_refusal
  room-fine good room = next-of _ good ∙ simp (le-ltb (length out) (count_of sheet) room, and-false (eqb (first_out sheet number) 0))

  pub settled-refused : {refusal : Refusal} → Err refusal ≡ placing_told (placing_answer sheet number) → Settled (answer_of (number_of refusal) 0) out
  unfolding cores_refusal
  settled-refused {refusal} told =
      let known = told-refused sheet number told in
      refused-cores (number_of refusal) (λ z. known.1 (sym known.0 ∙ z)) (first_of (box_refusal sheet number) _ known.1 ∙ sym known.0)

  -- a record that fits none: its number beside the output as it was
  pub settled-none : {first : ℕ} → Ok (put.FitsNone first) ≡ placing_told (placing_answer sheet number) → Settled (answer_of 0 first) out
  unfolding cores_number cores_left first_out
  settled-none {first} told =
      let known = told-none sheet number told in
      let other = ne_eqb first 0 (λ z. omega (arith, known.2)) in
      simp (none-fine known.0 (λ z. omega (arith, known.1, known.2)), known.1, other) (refl, refl)

  module _ {cores : List ℕ} (told : Ok (put.Everyone cores) ≡ placing_told (placing_answer sheet number)) where
    known : (box_refusal sheet number ≡ 0) × (first_out sheet number ≡ 0) × (cores ≡ cores_of (own_tasks (table_of sheet)) number)
    unfolding first_out
    known = told-everyone sheet number told

    -- the sheet is good
    pub settled-good : sheet_refusal sheet ≡ 0
    unfolding box_refusal whole_sheet_refusal
    settled-good = (none_of (sheet_refusal sheet) _ (none_of (whole_sheet_refusal sheet) _ known.0).0).0

    -- 11 where there is no room for the cores
    pub settled-short : length out < count_of sheet → Settled (answer_of 11 0) out
    unfolding cores_refusal
    settled-short short = refused-cores 11 (λ e. omega arith) (next-of _ known.0 ∙ simp (known.1, lt-ltb (length out) (count_of sheet) short))

    -- else 0 beside the cores and the bytes after them as they were
    pub settled-all : count_of sheet ≤ length out → Settled (answer_of 0 0) (take (count_of sheet) cores ++ drop (count_of sheet) out)
    unfolding cores_number cores_left
    settled-all room = simp (room-fine known.0 room, known.1, known.2) (refl, refl)
