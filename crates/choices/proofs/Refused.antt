-- What stands beside a refusal, in document 01's words: "a refused step gives it back with all entries zero", and a refused list leaves the output as it was;
-- when 11 is given; and the four bytes of a list's entry, field by field. Assumes nothing.
use Prim.Native.Nat.{ℕ, zero, suc, ◌+◌, ◌*◌, ◌/◌, ◌%◌, ◌≤◌, ◌<◌}
use mathlib.Core.Path.{◌≡◌, refl, sym, subst}
use mathlib.Core.List.{List, [], ◌∷◌}
use mathlib.Core.Logic.{◌↔◌}
use native.Mathlib.Omega.{arith}
use borrow.Author.Tests.{eq-eqb, ne_eqb}
use lib.ListN.{length, get_or, take, drop}
use lib.Seq.{drop_at}
use Rattle.places.proofs.Tells.{ltb-tells}
use Rattle.places.proofs.Filled.{alike_at}
use Rattle.sheet.specs.declared.Table.{Table}
use Rattle.sheet.specs.Rules.{table_refusal}
use Rattle.sheet.proofs.Order.{table-in-order}
use Rattle.sheet.proofs.Refused.{given-if}
use Rattle.analysis.specs.Published.Response.{passes}
use Rattle.choices.specs.declared.Walk.{Walk}
use Rattle.choices.specs.Told.Arrival.{Refused}
use Rattle.choices.specs.Choices.{passing_of}
use Rattle.choices.specs.Answers.{start_walk, walk_refusal, step_from, step_answer, entry_bytes, bytes_of, room_refusal, list_from, leaves_from, list_refusal, list_answer, list_leaves}
use Rattle.choices.specs.Stepping.{IsSmall}
use Rattle.choices.proofs.Entries.{entry-spelled, length-entry, length-bytes}
use Rattle.choices.proofs.Listed.{passing-eight, room_fits}
use Rattle.choices.proofs.Ordered.{in-at}
use Rattle.choices.proofs.Demands.{Zero, list-bytes}

-- "before the first choice, shown by eight zero entries"
pub start-zero : (length start_walk.entries ≡ 8) × Zero start_walk.entries
start-zero = (refl, alike_at 0 8)

-- `step`: refused, it gives the number beside a walk with all entries zero
pub step-refused : (t : Table) (w : Walk) → (walk_refusal t w.entries ≡ 0 → ⊥)
    → ((step_answer t w).arrival ≡ Refused (walk_refusal t w.entries)) × (length (step_answer t w).walk.entries ≡ 8) × Zero (step_answer t w).walk.entries
unfolding step_answer step_from
step-refused t w broken = simp (ne_eqb (walk_refusal t w.entries) 0 broken) (refl, refl, alike_at 0 8)

-- `list`
module _ (t : Table) (out : List ℕ) where
  -- 11 exactly if the table is good and "the lent output is shorter than what is to be written", 4 bytes for each entry
  pub list-11 : (list_refusal t out ≡ 11) ↔ ((table_refusal t ≡ 0) × (length out < 4 * length (passing_of t)))
  unfolding list_refusal room_refusal
  list-11 = given-if (table_refusal t) 11 (table-in-order t).range (omega arith) (ltb-tells (length out) (4 * length (passing_of t)))

  -- refused, there are no entries and the output stays as it was
  pub list-refused-leaves : (list_refusal t out ≡ 0 → ⊥) → ((list_answer t out).refusal ≡ list_refusal t out) × ((list_answer t out).entries ≡ 0) × (list_leaves t out ≡ out)
  unfolding list_answer list_from list_leaves leaves_from
  list-refused-leaves broken = simp (ne_eqb (list_refusal t out) 0 broken) (refl, refl, refl)

  -- else 0 beside their number, and "bytes after those are not touched"
  pub list-given : table_refusal t ≡ 0 → 4 * length (passing_of t) ≤ length out
      → ((list_answer t out).refusal ≡ 0) × ((list_answer t out).entries ≡ length (passing_of t)) × (drop (4 * length (passing_of t)) (list_leaves t out) ≡ drop (4 * length (passing_of t)) out)
  unfolding list_answer list_from list_leaves leaves_from list_refusal
  list-given good room =
      let fine = room_fits (table_refusal t) (passing_of t) out good room in
      simp (eq-eqb (list_refusal t out) 0 fine) (fine, refl, drop_at (bytes_of (passing_of t)) _ _ (length-bytes (passing_of t)))

-- a byte's halves
halves : (x y : ℕ) → y < 16 → ((x * 16 + y) / 16 ≡ x) × ((x * 16 + y) % 16 ≡ y)
halves x y h = (omega arith, omega arith)

-- "4 bits for each record in record order": the first of two records in a byte's high half, the second in its low half
abbrev Halves : List ℕ → List ℕ → ℕ → Type 0
Halves choice entry k = (get_or entry k 0 / 16 ≡ get_or choice (2 * k) 0) × (get_or entry k 0 % 16 ≡ get_or choice (2 * k + 1) 0)

-- "A list entry is 4 bytes"
pub record Fields (choice entry : List ℕ) : Type 0 where
  pub four : length entry ≡ 4
  pub each : (k : ℕ) → k < 4 → Halves choice entry k

-- two entries as a byte
abbrev pair : List ℕ → ℕ → ℕ
pair choice k = get_or choice (2 * k) 0 * 16 + get_or choice (2 * k + 1) 0

-- the four bytes of any eight entries below 16 do
pub entry-fields : (choice : List ℕ) → length choice ≡ 8 → IsSmall choice → Fields choice (entry_bytes choice)
unfolding IsSmall
entry-fields choice eight narrow = record { four = length-entry choice; each = λ k below. rw (entry-spelled choice eight narrow) (at k below) }
  where
    at : (k : ℕ) → k < 4 → Halves choice (pair choice 0 ∷ pair choice 1 ∷ pair choice 2 ∷ pair choice 3 ∷ []) k
    at zero below = halves (get_or choice 0 0) (get_or choice 1 0) (narrow 1)
    at (suc zero) below = halves (get_or choice 2 0) (get_or choice 3 0) (narrow 3)
    at (suc (suc zero)) below = halves (get_or choice 4 0) (get_or choice 5 0) (narrow 5)
    at (suc (suc (suc zero))) below = halves (get_or choice 6 0) (get_or choice 7 0) (narrow 7)
    at (suc (suc (suc (suc k)))) below = absurd (omega arith)

-- the four bytes at each place of the list hold the choice at that place
pub list-fields : (t : Table) (out : List ℕ) → table_refusal t ≡ 0 → 4 * length (passing_of t) ≤ length out → (k : ℕ) → k < length (passing_of t)
    → Fields (get_or (passing_of t) k []) (take 4 (drop (4 * k) (list_leaves t out)))
unfolding passing_of list_refusal
list-fields t out good room k below =
    let known = passing-eight passes t good (in-at (passing_of t) k below) in
    subst (Fields (get_or (passing_of t) k [])) (sym (list-bytes t out (room_fits (table_refusal t) (passing_of t) out good room) k below)) (entry-fields (get_or (passing_of t) k []) known.0 known.1)
