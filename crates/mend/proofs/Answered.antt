-- What `mend` answers and leaves in each of its cases, by what it read and what it wrote. Assumes nothing.
use Prim.Native.Nat.{ℕ, ◌+◌, ◌≤◌}
use mathlib.Core.Path.{◌≡◌, sym, ap, ap₂, ◌∙◌}
use mathlib.Core.Bool.{cond}
use mathlib.Core.List.{List, ◌++◌}
use borrow.Author.Tests.{ne_eqb}
use lib.Dec.{eqb, ltb}
use lib.ListN.{length, take, drop}
use Rattle.std.specs.Prelude.{Result, Ok, Err}
use Rattle.places.specs.declared.refusal.Refusal.{Refusal}
use Rattle.places.specs.Answered.{answered}
use Rattle.places.proofs.Answered.{good_of, value_of, broken_of, passed_as, ok_answered}
use Rattle.places.specs.Places.{joined_below}
use Rattle.places.specs.Refusals.{or_else}
use Rattle.places.proofs.Agree.{joined-agree}
use Rattle.places.proofs.Refusals.{first_of}
use Rattle.sheet.specs.declared.Table.{Table}
use Rattle.sheet.specs.Layout.{count_of, sheet_record, record_at, table_of, table_size}
use Rattle.sheet.specs.Rules.{header_refusal, sheet_refusal}
use Rattle.sheet.specs.Answers.{unjudged_answer, write_refusal, write_answer, write_leaves}
use Rattle.sheet.proofs.Spelled.{Bytes}
use Rattle.sheet.proofs.Agree.{room_at}
use Rattle.sheet.proofs.Return.{size-kept, sheet-kept}
use Rattle.sheet.proofs.Told.{unjudged-told}
use Rattle.mend.specs.declared.Change.{Change}
use Rattle.mend.specs.declared.Changes.{Changes}
use Rattle.mend.specs.declared.Mending.{Mending}
use Rattle.mend.specs.declared.Field.TheVariants.{Length}
use Rattle.mend.specs.Mended.{mended}
use Rattle.mend.specs.Changes.{listed, length_change, record_changes, changes_of, held}
use Rattle.mend.specs.Answers.{mend_refusal, mend_answer, mending_told, mend_leaves}
use Rattle.mend.specs.Steps.{kept_of, mended_table, table_changes}
use Rattle.mend.proofs.Cut.{cut, kept-said, header-same, mended-byte, good-complete, mended-header, cut-table, table-mended, table-judged}

module _ (s out : List ℕ) where
  -- the answer and the output of a call
  abbrev pub Told : Result Mending Refusal → List ℕ → Type 0
  Told answer left = (answer ≡ answered (mend_answer s out).refusal (mending_told (mend_answer s out))) × (left ≡ mend_leaves s out)

  -- refused, the refusal, and the output as it was
  refused-told : {A : Type 0} (refusal : ℕ) (a : A) {e : Refusal} → Err e ≡ answered refusal a → refusal ≡ mend_refusal s out → Told (Err e) out
  unfolding mend_answer mend_leaves
  refused-told refusal a told is =
      let broken : mend_refusal s out ≡ 0 → ⊥ = λ none. broken_of refusal a told (is ∙ none) in
      (passed_as refusal a _ told is, simp (ne_eqb (mend_refusal s out) 0 broken))

  module _ (byte : Bytes s) where
    -- a refused header decides
    header-first : (header_refusal (cut s) ≡ 0 → ⊥) → header_refusal (cut s) ≡ mend_refusal s out
    unfolding mend_refusal sheet_refusal
    header-first broken =
        let still : header_refusal (mended s) ≡ 0 → ⊥ = λ none. broken (header-same s byte ∙ none) in
        let decides = first_of (header_refusal (mended s)) _ still in
        header-same s byte ∙ sym decides ∙ sym (first_of (sheet_refusal (mended s)) _ (λ none. still (sym decides ∙ none)))

    module _ (good : header_refusal (cut s) ≡ 0) where
      -- the mended table is written as the mended sheet
      size_same : table_size (table_of (mended s)) ≡ length (mended s)
      size_same = sym (size-kept (mended s) (mended-header s byte good))

      refusal-same : write_refusal (table_of (mended s)) out ≡ mend_refusal s out
      unfolding write_refusal mend_refusal
      refusal-same = ap₂ or_else (table-judged (mended s) (sym (header-same s byte) ∙ good)) (ap (λ (n : ℕ). cond (ltb (length out) n) 11 0) size_same)

      leaves-same : write_leaves (table_of (mended s)) out ≡ mend_leaves s out
      unfolding write_leaves mend_leaves
      leaves-same =
          ap₂ (λ (r : ℕ) (l : List ℕ). cond (eqb r 0) l out) refusal-same
          (ap₂ (λ (l : List ℕ) (n : ℕ). l ++ drop n out) (sheet-kept (mended s) (mended-byte s byte) (mended-header s byte good)) size_same)

      -- the changes found in the table are the sheet's
      changes-same : table_changes (length s) (kept_of s) (table_of (cut s)) ≡ changes_of s
      unfolding table_changes changes_of length_change
      changes-same =
          let whole = good-complete s good in
          ap₂ (λ (n : ℕ) (t : Table). listed (record { place = 0; field = Length; old = length s; new = n }) ++ joined_below (λ k. record_changes (k + 1) (record_at t.records k)) t.count) (kept-said s whole) (cut-table s byte good)
          ∙ ap (λ (l : List Change). listed (length_change s) ++ l) (joined-agree (count_of s) (λ k below. ap (record_changes (k + 1)) (room_at (sheet_record s) (count_of s) whole.known.0.1 k below)))

    -- by what was read of the sheet up to where it is cut
    module _ (end : ℕ) (ends : end ≡ kept_of s) where
      refusal-cut : header_refusal (take end s) ≡ header_refusal (cut s)
      refusal-cut = ap (λ (n : ℕ). header_refusal (take n s)) ends

      pub header-told : {e : Refusal} → Err e ≡ answered (unjudged_answer (take end s)).refusal (unjudged_answer (take end s)).table → Told (Err e) out
      unfolding unjudged_answer
      header-told told =
          refused-told (header_refusal (take end s)) _ told
          (refusal-cut ∙ header-first (λ none. broken_of (header_refusal (take end s)) _ told (refusal-cut ∙ none)))

      module _ (typed : Table) (reads : Ok typed ≡ answered (unjudged_answer (take end s)).refusal (unjudged_answer (take end s)).table) where
        good : header_refusal (cut s) ≡ 0
        good = sym refusal-cut ∙ (unjudged-told (take end s) reads).0

        table-read : typed ≡ table_of (cut s)
        table-read = (unjudged-told (take end s) reads).1 ∙ ap (λ (n : ℕ). table_of (take n s)) ends

        few-read : typed.count ≤ 8
        few-read = rw (table-read ∙ cut-table s byte good) (good-complete s good).known.0.1

        -- and by what was written of its table, mended
        module _ (table : Table) (mends : table ≡ mended_table typed) (left : List ℕ) (leaves : left ≡ write_leaves table out) where
          table_is : table ≡ table_of (mended s)
          table_is = mends ∙ ap mended_table table-read ∙ table-mended s byte good

          refusal_is : write_refusal table out ≡ mend_refusal s out
          refusal_is = ap (λ (t : Table). write_refusal t out) table_is ∙ refusal-same good

          left_is : left ≡ mend_leaves s out
          left_is = leaves ∙ ap (λ (t : Table). write_leaves t out) table_is ∙ leaves-same good

          refusal-told : {e : Refusal} → Err e ≡ answered (write_answer table out).refusal (write_answer table out).written → Told (Err e) left
          unfolding write_answer
          refusal-told told = ((refused-told (write_refusal table out) _ told refusal_is).0, left_is)

          mended-told : {written : ℕ} {changes : Changes} → Ok written ≡ answered (write_answer table out).refusal (write_answer table out).written
              → changes ≡ held (table_changes (length s) end typed) → Told (Ok (record { written = written; changes = changes })) left
          unfolding mend_answer write_answer
          mended-told told list =
              let passed : mend_refusal s out ≡ 0 = sym refusal_is ∙ good_of (write_refusal table out) _ told in
              let fits : write_refusal table out ≡ 0 = refusal_is ∙ passed in
              let size : _ ≡ length (mended s) = value_of (write_refusal table out) _ told ∙ simp fits (ap table_size table_is ∙ size_same good) in
              let changed : table_changes (length s) end typed ≡ changes_of s = ap₂ (table_changes (length s)) ends table-read ∙ changes-same good in
              (ok_answered (mend_refusal s out) _ passed (simp (passed, size, list, changed)), left_is)

-- what is known once a sheet was read up to where it is cut, and its table written, mended
pub record Course (s out : List ℕ) : Type 0 where
  pub byte : Bytes s
  pub end : ℕ
  pub ends : end ≡ kept_of s
  pub typed : Table
  pub reads : Ok typed ≡ answered (unjudged_answer (take end s)).refusal (unjudged_answer (take end s)).table
  pub table : Table
  pub mends : table ≡ mended_table typed
  pub left : List ℕ
  pub leaves : left ≡ write_leaves table out

module _ {s out : List ℕ} (c : Course s out) where
  pub course-few : c.typed.count ≤ 8
  course-few = few-read s out c.byte c.end c.ends c.typed c.reads

  pub course-refused : {e : Refusal} → Err e ≡ answered (write_answer c.table out).refusal (write_answer c.table out).written → Told s out (Err e) c.left
  course-refused = refusal-told s out c.byte c.end c.ends c.typed c.reads c.table c.mends c.left c.leaves

  pub course-mended : {written : ℕ} {changes : Changes} → Ok written ≡ answered (write_answer c.table out).refusal (write_answer c.table out).written
      → changes ≡ held (table_changes (length s) c.end c.typed) → Told s out (Ok (record { written = written; changes = changes })) c.left
  course-mended = mended-told s out c.byte c.end c.ends c.typed c.reads c.table c.mends c.left c.leaves
