-- What `fq_mend` answers and leaves in each of its cases, by what mending into 79 bytes of its own gave. Assumes nothing.
use Prim.Native.Nat.{ℕ, suc, ◌+◌, ◌*◌, ◌≤◌, ◌<◌}
use mathlib.Core.Path.{◌≡◌, refl, sym, ap, ap₂, ◌∙◌}
use mathlib.Core.List.{List, ◌∷◌, ◌++◌}
use mathlib.Core.Logic.{inl}
use native.Mathlib.Nat.{zero-add}
use native.Mathlib.Numerals.{one-add}
use native.Mathlib.Omega.{arith}
use borrow.Author.Tests.{ne_eqb, le-ltb, lt-ltb}
use lib.Dec.{ltb}
use lib.IntN.{ℤ}
use lib.ListN.{length, take, drop, replicate, get_or-append, length-append}
use lib.Seq.{sets, sets-eq, take_at, take_all}
use Rattle.std.specs.Prelude.{Ok, Err}
use Rattle.places.specs.declared.refusal.Refusal.{Refusal}
use Rattle.places.specs.Answered as said
use Rattle.places.proofs.Answered.{good_of, value_of, broken_of, told_number, known_else, known_if}
use Rattle.places.proofs.Agree.{joined-agree}
use Rattle.places.proofs.Joined.{length-joined}
use Rattle.places.proofs.Refusals.{first_of, next-of}
use Rattle.sheet.specs.Rules.{sheet_refusal}
use Rattle.sheet.proofs.Told.{sheet-known}
use Rattle.sheet.proofs.Spelled.{Bytes}
use Rattle.mend.specs.declared.Change.{Change}
use Rattle.mend.specs.declared.Changes.{Changes}
use Rattle.mend.specs.declared.Mending as told
use Rattle.mend.specs.Told.{Mending}
use Rattle.mend.specs.Mended.{mended}
use Rattle.mend.specs.Changes.{no_change, changes_of, held}
use Rattle.mend.specs.Answers.{mend_refusal, mend_answer, mending_told, mend_leaves}
use Rattle.mend.proofs.Demands.{room-enough, changes-few}
use Rattle.fidhaqooban.specs.Numbers.{answer_of, change_numbers, changes_from, changes_numbers}
use Rattle.fidhaqooban.specs.Answers.{list_size, mending_refusal, mend_number, mend_left, mend_listed}
use Rattle.fidhaqooban.proofs.Answered.{answered}

-- the bytes that it mends into
abbrev own : List ℕ
own = replicate 79 0

own_room : 79 ≤ length own
own_room = omega arith

-- a list of changes takes a number and four for each
pub numbers-size : (list : List Change) (count : ℕ) → length (changes_from list count) ≡ 1 + 4 * count
unfolding changes_from change_numbers
numbers-size list count = ap (λ (n : ℕ). suc n) (length-joined _ 4 (λ place. refl) count) ∙ sym (one-add (4 * count))

-- what mending into 79 bytes gave
pub record Made (s : List ℕ) : Type 0 where
  pub mending : Mending
  pub left : List ℕ
  pub is : mending ≡ mend_answer s own
  pub leaves : left ≡ mend_leaves s own

-- such is what was answered
abbrev pub made-so : (s : List ℕ) {given : told.Mending} → Ok given ≡ said.answered (mend_answer s own).refusal (mending_told (mend_answer s own)) → (left : List ℕ) → left ≡ mend_leaves s own → Made s
made-so s {given} answer left leaves =
    let fine = good_of _ _ answer in
    let is = value_of _ _ answer in
    record {
      mending = record { refusal = 0; written = given.written; changes = given.changes };
      left = left;
      is = λ i. record { refusal = sym fine i; written = (is i).written; changes = (is i).changes };
      leaves = leaves;
    }

module _ (s out changes : List ℕ) where
  -- the answer of a call and its two outputs
  abbrev pub Told : ℤ → List ℕ → List ℕ → Type 0
  Told answer left listed = (answer ≡ mend_number s out changes) × (left ≡ mend_left s out changes) × (listed ≡ mend_listed s out changes)

  -- refused, minus the number beside the outputs as they were
  refused-told : (refusal : ℕ) → (refusal ≡ 0 → ⊥) → refusal ≡ mending_refusal s out changes → Told (answer_of refusal 0) out changes
  unfolding mend_number mend_left mend_listed
  refused-told refusal broken is =
      let tested = ne_eqb (mending_refusal s out changes) 0 (λ none. broken (is ∙ none)) in
      (answered refusal 0 (length (mended s)) (λ none. absurd (broken none)) ∙ ap (λ (r : ℕ). answer_of r (length (mended s))) is, simp tested, simp tested)

  -- by what mending into 79 bytes gave
  module _ (m : Made s) where
    refusal_is : m.mending.refusal ≡ sheet_refusal (mended s)
    unfolding mend_answer
    refusal_is = ap (λ (x : Mending). x.refusal) m.is ∙ room-enough s own own_room

    sheet-told : (m.mending.refusal ≡ 0 → ⊥) → Told (answer_of m.mending.refusal 0) out changes
    unfolding mending_refusal
    sheet-told broken = refused-told m.mending.refusal broken (refusal_is ∙ sym (first_of (sheet_refusal (mended s)) _ (λ none. broken (refusal_is ∙ none))))

    module _ (fine : m.mending.refusal ≡ 0) where
      good : sheet_refusal (mended s) ≡ 0
      good = sym refusal_is ∙ fine

      roomy : mend_refusal s own ≡ 0
      roomy = room-enough s own own_room ∙ good

      pub size_is : m.mending.written ≡ length (mended s)
      unfolding mend_answer
      size_is = ap (λ (x : Mending). x.written) m.is ∙ simp roomy

      held-is : m.mending.changes ≡ held (changes_of s)
      unfolding mend_answer
      held-is = ap (λ (x : Mending). x.changes) m.is ∙ simp roomy

      count-is : m.mending.changes.count ≡ length (changes_of s)
      unfolding held
      count-is = ap (λ (l : Changes). l.count) held-is

      pub few-changes : Bytes s → m.mending.changes.count ≤ 17
      few-changes byte = rw count-is (changes-few s byte good)

      left_is : m.left ≡ mended s ++ drop (length (mended s)) own
      unfolding mend_leaves
      left_is = m.leaves ∙ simp roomy

      pub size_fits : m.mending.written ≤ length m.left
      size_fits = rw (size_is, left_is) (simp length-append (omega arith))

      -- the bytes that are copied are the mended sheet
      pub copied : take m.mending.written m.left ≡ mended s
      copied = ap₂ (λ (n : ℕ) (l : List ℕ). take n l) size_is left_is ∙ take_at (mended s) _ (length (mended s)) refl

      -- 11 where either output is too short
      pub short-told : length out < m.mending.written → Told (answer_of 11 0) out changes
      unfolding mending_refusal
      short-told short = refused-told 11 (λ e. omega arith) (sym (next-of _ good ∙ simp (lt-ltb (length out) (length (mended s)) (rw size_is at short))))

      module _ (room : m.mending.written ≤ length out) where
        pub list-told : length changes < 1 + 4 * m.mending.changes.count → Told (answer_of 11 0) out changes
        unfolding mending_refusal
        list-told short =
            refused-told 11 (λ e. omega arith)
            (sym (next-of _ good ∙ simp (le-ltb (length out) (length (mended s)) (rw size_is at room), lt-ltb (length changes) (list_size s) (rw count-is at short))))

        -- else both are written
        module _ (list-room : 1 + 4 * m.mending.changes.count ≤ length changes) where
          fits : mending_refusal s out changes ≡ 0
          unfolding mending_refusal
          fits = next-of _ good ∙ simp (le-ltb (length out) (length (mended s)) (rw size_is at room), le-ltb (length changes) (list_size s) (rw count-is at list-room))

          numbers-is : changes_from m.mending.changes.list m.mending.changes.count ≡ changes_numbers (changes_of s)
          unfolding changes_from held
          numbers-is =
              ap₂ changes_from (ap (λ (l : Changes). l.list) held-is) count-is
              ∙ ap (λ (l : List ℕ). length (changes_of s) ∷ l) (joined-agree (length (changes_of s)) (λ k below. ap change_numbers (get_or-append (changes_of s) _ no_change k below)))

          -- the copy's output and the list's
          pub both_told : (put : List ℕ) → put ≡ take (length (take m.mending.written m.left)) (take m.mending.written m.left) ++ drop (length (take m.mending.written m.left)) out
              → Told (answer_of 0 m.mending.written) put (sets changes 0 (changes_from m.mending.changes.list m.mending.changes.count))
          unfolding mend_number mend_left mend_listed
          both_told put is-put =
              let numbers = changes_numbers (changes_of s) in
              let size = numbers-size (changes_of s) (length (changes_of s)) in
              let list-fits : 0 + length numbers ≤ length changes = omega (arith, size, count-is) in (
                ap (answer_of 0) size_is ∙ simp fits,
                is-put ∙ ap (λ (l : List ℕ). take (length l) l ++ drop (length l) out) copied ∙ ap (λ (l : List ℕ). l ++ drop (length (mended s)) out) (take_all (length (mended s)) (mended s) (omega arith)) ∙ simp fits,
                ap (sets changes 0) numbers-is ∙ sets-eq numbers changes 0 list-fits ∙ ap (λ (n : ℕ). numbers ++ drop n changes) (zero-add (length numbers) ∙ size) ∙ simp fits,
              )

-- a sheet that is not mended
pub not-mended : (s out changes : List ℕ) {e : Refusal} → Err e ≡ said.answered (mend_answer s own).refusal (mending_told (mend_answer s own)) → Told s out changes (answer_of (said.number_of e) 0) out changes
unfolding mend_answer mend_refusal
not-mended s out changes {e} answer =
    let known = known_else (sheet-known (mended s)) (known_if (ltb (length own) (length (mended s))) 11 (inl (omega arith, omega arith))) in
    let is : said.number_of e ≡ mend_refusal s own = told_number (mend_refusal s own) _ known answer in
    let told = sheet-told s out changes (record { mending = mend_answer s own; left = mend_leaves s own; is = refl; leaves = refl }) (broken_of (mend_refusal s own) _ answer) in
    (ap (λ (r : ℕ). answer_of r 0) is ∙ told.0, told.1, told.2)
