-- What mending leaves as it was, byte for byte. Assumes nothing.
use Prim.Native.Nat.{ℕ, ◌+◌, ◌*◌, ◌/◌, ◌%◌, ◌<◌}
use mathlib.Core.Path.{◌≡◌, refl, sym, ap, ◌∙◌}
use mathlib.Core.List.{List, [], ◌∷◌}
use lib.Arith.{digits_div}
use lib.ListN.{length, get_or, take, drop}
use Rattle.sheet.specs.declared.Record.{Record}
use Rattle.sheet.specs.Layout.{count_of, start_of, part_of, sheet_record}
use Rattle.sheet.proofs.Spelled.{Bytes, Sized, word_bytes, record-put}
use Rattle.mend.specs.Mended.{mended_deadline, mended_fault, mended_record, mended}
use Rattle.mend.proofs.Complete.{Complete}
use Rattle.mend.proofs.Rebuilt.{sheet-sized, part-put, with-start, with_part}
use Rattle.mend.proofs.Cut.{mended_at, mended-with, mended-sized}

-- the nine bytes of a record before and after: those of cost, backup and period and the upper half of the last, which holds the priority, are the same; the two of the deadline and the lower half of the last, which holds the fault priority, where no change of them is made
pub record Kept (r : Record) (before after : List ℕ) : Type 0 where
  pub costs : take 4 after ≡ take 4 before
  pub deadline : mended_deadline r.deadline r.period ≡ r.deadline → take 2 (drop 4 after) ≡ take 2 (drop 4 before)
  pub period : take 2 (drop 6 after) ≡ take 2 (drop 6 before)
  pub priority : get_or after 8 0 / 16 ≡ get_or before 8 0 / 16
  pub fault : mended_fault r.fault_priority r.priority ≡ r.fault_priority → get_or after 8 0 % 16 ≡ get_or before 8 0 % 16
  pub nine : (length before ≡ 9) × (length after ≡ 9)

-- a record's bytes spelled out
abbrev nine_of : Record → List ℕ
nine_of r = word_bytes (r.cost ∷ r.backup ∷ r.deadline ∷ r.period ∷ []) ((r.priority * 16 + r.fault_priority) ∷ [])

kept-nine : (r : Record) → Sized r → Kept r (nine_of r) (nine_of (mended_record r))
unfolding mended_record
kept-nine r z =
    record {
      costs = refl;
      deadline = λ e. ap (λ (x : ℕ). x / 256 ∷ x % 256 ∷ []) e;
      period = refl;
      priority = digits_div r.priority (mended-sized r z).fault ∙ sym (digits_div r.priority z.fault);
      fault = λ e. ap (λ (x : ℕ). (r.priority * 16 + x) % 16) e;
      nine = (refl, refl);
    }

module _ (s : List ℕ) (whole : Complete s) (byte : Bytes s) where
  -- "nothing else differs, byte for byte", within a record
  pub record-untouched : (k : ℕ) → k < count_of s → Kept (sheet_record s k) (part_of s k) (part_of (mended s) k)
  record-untouched k below =
      let z = sheet-sized s whole byte k below in
      let before : part_of s k ≡ nine_of (sheet_record s k) = sym (part-put s whole byte k below) ∙ record-put (sheet_record s k) z in
      let after : part_of (mended s) k ≡ nine_of (mended_at s k) = ap (λ (t : List ℕ). part_of t k) (mended-with s whole) ∙ with_part s whole (mended_at s) k below ∙ record-put (mended_at s k) (mended-sized (sheet_record s k) z) in
      rw (before, after) (kept-nine (sheet_record s k) z)

  -- and before the records
  pub header-untouched : take (start_of s) (mended s) ≡ take (start_of s) s
  header-untouched = ap (take (start_of s)) (mended-with s whole) ∙ with-start s whole (mended_at s)
