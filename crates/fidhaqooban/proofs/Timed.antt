-- What `fq_times` answers and leaves in each of its cases, by its refusal. Assumes nothing.
use Prim.Native.Nat.{ℕ, ◌*◌, ◌/◌, ◌%◌, ◌≤◌, ◌<◌}
use mathlib.Core.Path.{◌≡◌, sym, ap, ap₂, ◌∙◌}
use mathlib.Core.Bool.{Bool, cond}
use mathlib.Core.List.{List}
use native.Mathlib.Omega.{arith}
use borrow.Author.Tests.{eq-eqb, ne_eqb, lt-ltb, le-ltb}
use lib.IntN.{ℤ}
use lib.ListN.{length, get_or, replicate}
use Rattle.places.specs.Places.{filled_below}
use Rattle.std.specs.Prelude.{Ok, Err}
use Rattle.places.specs.declared.refusal.Refusal.{Refusal}
use Rattle.places.specs.Answered as said
use Rattle.places.proofs.Agree.{filled-agree}
use Rattle.places.proofs.Filled.{filled_at}
use Rattle.places.proofs.Refusals.{first_of, next-of}
use Rattle.sheet.specs.declared.Table.{Table}
use Rattle.sheet.specs.Layout.{count_of, table_of}
use Rattle.sheet.specs.Rules.{sheet_refusal, table_refusal}
use Rattle.sheet.specs.Answers.{read_answer}
use Rattle.sheet.proofs.Cases.{good-table}
use Rattle.analysis.specs.Told.{Assessment}
use Rattle.analysis.specs.declared.Entry.{Entry}
use Rattle.analysis.specs.Published.Response.{passes}
use Rattle.analysis.specs.Common.Tasks.{own_choice}
use Rattle.analysis.specs.Published.Answers.{entry_of, choice_refusal, choice_assessment, own_assessment}
use Rattle.analysis.specs.Common.Entries.{no_entry, own_tasks, assessed}
use Rattle.analysis.proofs.Laws.Common.Choice.{own-refusal}
use Rattle.analysis.proofs.Refused.{assessed-verdict}
use Rattle.fidhaqooban.specs.Numbers.{answer_of, entry_number}
use Rattle.fidhaqooban.specs.Answers.{times_refusal, times_number, times_left}
use Rattle.fidhaqooban.proofs.Answered.{answered, good-read, table-read, good-table-read, broken-read, number-read}

-- the entry at a record's place in the answer of `assess`
entry-there : (t : Table) → choice_refusal t (own_choice t) ≡ 0 → (place : ℕ) → place < t.count → get_or (own_assessment t).entries place no_entry ≡ entry_of (own_tasks t) place
unfolding own_assessment choice_assessment assessed
entry-there t fine place below =
    rw (eq-eqb (choice_refusal t (own_choice t)) 0 fine) (filled_at (entry_of (own_tasks t)) t.count (replicate 8 no_entry) no_entry (good-table t (sym (own-refusal t) ∙ fine)).count.1 place below)

module _ (s : List ℕ) (out : List ℤ) where
  -- the answer and the output of a call
  abbrev pub Told : ℤ → List ℤ → Type 0
  Told answer left = (answer ≡ times_number s out) × (left ≡ times_left s out)

  -- refused, minus the number beside the output as it was
  refused-told : (refusal : ℕ) → (refusal ≡ 0 → ⊥) → refusal ≡ times_refusal s out → Told (answer_of refusal 0) out
  unfolding times_number times_left
  refused-told refusal broken is = (
    answered refusal 0 (cond (passes (own_tasks (table_of s))) 1 0) (λ none. absurd (broken none)) ∙ ap (λ (r : ℕ). answer_of r (cond (passes (own_tasks (table_of s))) 1 0)) is,
    simp (ne_eqb (times_refusal s out) 0 (λ none. broken (is ∙ none))),
  )

  -- a refused sheet
  pub sheet-told : {e : Refusal} → Err e ≡ said.answered (read_answer s).refusal (read_answer s).table → Told (answer_of (said.number_of e) 0) out
  unfolding times_refusal
  sheet-told {e} read =
      let broken = broken-read s read in
      let is = number-read s read in
      refused-told (said.number_of e) (λ none. broken (sym is ∙ none)) (is ∙ sym (first_of (sheet_refusal s) _ broken))

  -- and one that was read
  module _ {table : Table} (read : Ok table ≡ said.answered (read_answer s).refusal (read_answer s).table) where
    count-is : table.count ≡ count_of s
    unfolding table_of
    count-is = ap (λ (t : Table). t.count) (table-read s read)

    -- 11 where there is no room
    pub no_room : length out < 3 * table.count → Told (answer_of 11 0) out
    unfolding times_refusal
    no_room short = refused-told 11 (λ z. omega arith) (sym (next-of _ (good-read s read) ∙ simp (lt-ltb (length out) (3 * count_of s) (rw count-is at short))))

    -- else the verdict beside three numbers for each record
    pub good-told : 3 * table.count ≤ length out → (answer : Assessment) → answer ≡ own_assessment table
        → Told (answer_of answer.refusal (cond answer.passes 1 0)) (filled_below (λ k. entry_number (get_or answer.entries (k / 3) no_entry) (k % 3)) (3 * table.count) out)
    unfolding times_number times_left times_refusal own_assessment table_of
    good-told room answer given =
        let fine : times_refusal s out ≡ 0 = next-of _ (good-read s read) ∙ simp (le-ltb (length out) (3 * count_of s) (rw count-is at room)) in
        let said : answer ≡ own_assessment (table_of s) = given ∙ ap own_assessment (table-read s read) in
        let good = own-refusal (table_of s) ∙ good-table-read s read in
        (ap (λ (a : Assessment). answer_of a.refusal (cond a.passes 1 0)) said ∙ verdict good ∙ simp fine, numbers good said ∙ simp fine)
      where
        whole : Table
        whole = table_of s

        verdict : choice_refusal whole (own_choice whole) ≡ 0 → answer_of (own_assessment whole).refusal (cond (own_assessment whole).passes 1 0) ≡ answer_of 0 (cond (passes (own_tasks whole)) 1 0)
        verdict good = let said = assessed-verdict whole (own_choice whole) good in ap₂ (λ (r : ℕ) (b : Bool). answer_of r (cond b 1 0)) said.0 said.1

        numbers : choice_refusal whole (own_choice whole) ≡ 0 → answer ≡ own_assessment whole
            → filled_below (λ k. entry_number (get_or answer.entries (k / 3) no_entry) (k % 3)) (3 * table.count) out
            ≡ filled_below (λ k. entry_number (entry_of (own_tasks whole) (k / 3)) (k % 3)) (3 * count_of s) out
        numbers good said =
            ap (λ (n : ℕ). filled_below (λ k. entry_number (get_or answer.entries (k / 3) no_entry) (k % 3)) (3 * n) out) count-is
            ∙ filled-agree (3 * count_of s) out (λ k below. ap (λ (x : Entry). entry_number x (k % 3)) (ap (λ (a : Assessment). get_or a.entries (k / 3) no_entry) said ∙ entry-there whole good (k / 3) (omega arith)))

-- a table that was read is assessed
pub assessed-good : (s : List ℕ) {table : Table} → Ok table ≡ said.answered (read_answer s).refusal (read_answer s).table → (own_assessment table).refusal ≡ 0
unfolding own_assessment choice_assessment assessed
assessed-good s {table} read = own-refusal table ∙ ap table_refusal (table-read s read) ∙ good-table-read s read
