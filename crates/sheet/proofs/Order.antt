-- A sheet's refusal and that of a table by value are given in the order in which the rows of specs/Broken.antt are tried. Assumes nothing.
use Prim.Native.Nat.{ℕ, suc, ◌+◌, ◌*◌, ◌≤◌, ◌<◌}
use mathlib.Core.Path.{◌≡◌, refl, sym, subst}
use mathlib.Core.Bool.{Bool, true, false, cond, not}
use mathlib.Core.Logic.{◌⊎◌, ◌↔◌, inl, inr, ⊎_elim}
use mathlib.Core.List.{List, [], ◌∷◌}
use native.Mathlib.Nat.{suc-ne-zero}
use native.Mathlib.Omega.{arith}
use lib.Dec.{eqb, ltb}
use lib.ListN.{length}
use Rattle.places.specs.Refusals.{or_else, row, InOrder}
use Rattle.places.proofs.Tells.{Tells, holds, fails, tells-iff, ltb-tells, leb_tells, eqb_tells, not-tells, or-tells, and-tells}
use Rattle.places.proofs.Some.{some-tells}
use Rattle.places.proofs.Refusals.{next-of, first_of}
use Rattle.places.proofs.Order.{Says, none, first, says_none, says_row, says-wider, says-joined, says-below, in_order}
use Rattle.sheet.specs.declared.Record.{Record}
use Rattle.sheet.specs.declared.Table.{Table}
use Rattle.sheet.specs.Layout.{count_of, edition_of, interval_of, round_of, share_of, start_of, size_of, is_whole, edition_for, table_edition, sheet_record, record_at, table_of}
use Rattle.sheet.specs.Rules.{outside, wrong_share, taken, refusal_of, record_refusal, records_refusal, header_refusal, sheet_refusal, figures_refusal, table_refusal, shared_refusal, whole_sheet_refusal}
use Rattle.sheet.specs.Broken.{WrongShare, RuleNumber, record_rows, records_rows, header_rows, sheet_rows, figures_rows, table_rows, whole_rows, WholeNumber}
use Rattle.sheet.proofs.Editions.{Edition, old, new, edition-of, whole-old}
use Rattle.sheet.proofs.Cases.{outside-tells}

-- the rules' numbers are not 0
pub rule-positive : (r : ℕ) → RuleNumber r → 0 < r
rule-positive r (inl h) = h.0
rule-positive r (inr e) = omega arith

low : {r : ℕ} → (1 ≤ r) × (r ≤ 10) → RuleNumber r
low h = inl h

-- "S zero or not below Q", in an edition that is not the old one
share-tells : (edition round share : ℕ) → Tells ((edition ≡ 0 → ⊥) × WrongShare round share) (wrong_share edition round share)
unfolding wrong_share
share-tells edition round share = and-tells (not-tells (eqb_tells edition 0)) (or-tells (eqb_tells share 0) (leb_tells round share))

-- the length that an edition asks for
length-tells : (length edition count : ℕ) → edition ≤ 1 → Tells (((edition ≡ 0) × (length ≡ 3 + 9 * count → ⊥)) ⊎ ((edition ≡ 1) × (length ≡ 7 + 9 * count → ⊥))) (not (eqb length (size_of edition count)))
unfolding size_of
length-tells length edition count low = go edition (edition-of edition low) refl
  where
    go : (e : ℕ) → Edition e → edition ≡ e → Tells (((edition ≡ 0) × (length ≡ 3 + 9 * count → ⊥)) ⊎ ((edition ≡ 1) × (length ≡ 7 + 9 * count → ⊥))) (not (eqb length (3 + 4 * edition + 9 * count)))
    go e old is =
        rw is (tells-iff (λ n. inl (refl, n)) (⊎_elim (λ w. w.1) (λ w. absurd (omega arith))) (not-tells (eqb_tells length (3 + 9 * count))))
    go e new is =
        rw is (tells-iff (λ n. inr (refl, n)) (⊎_elim (λ w. absurd (omega arith)) (λ w. w.1)) (not-tells (eqb_tells length (7 + 9 * count))))

-- three tests before a refusal are a refusal and the next
else-tests : (a b c : Bool) (x y z r : ℕ) → or_else (cond a (suc x) (cond b (suc y) (cond c (suc z) 0))) r ≡ cond a (suc x) (cond b (suc y) (cond c (suc z) r))
else-tests true b c x y z r = first_of (suc x) r (suc-ne-zero x)
else-tests false true c x y z r = first_of (suc y) r (suc-ne-zero y)
else-tests false false true x y z r = first_of (suc z) r (suc-ne-zero z)
else-tests false false false x y z r = next-of r refl

-- the header's refusal says it of the sheet's rows before its records
header-says : (sheet : List ℕ) → Says RuleNumber (header_rows sheet) (header_refusal sheet)
unfolding header_rows header_refusal start_of
header-says sheet =
    subst (Says RuleNumber (header_rows sheet)) (sym (else-tests (ltb (length sheet) 3) (outside (count_of sheet) 8) (ltb 1 (edition_of sheet)) 0 1 2 _))
    (says_row (low (omega arith)) (ltb-tells (length sheet) 3) (λ long.
    says_row (low (omega arith)) (outside-tells (count_of sheet) 8) (λ counted.
    says_row (low (omega arith)) (ltb-tells 1 (edition_of sheet)) (λ edition.
    says_row (low (omega arith)) (tells-iff (λ h. omega arith) (λ h. omega arith) (ltb-tells (length sheet) (3 + 4 * edition_of sheet))) (λ header.
    says_row (low (omega arith)) (length-tells (length sheet) (edition_of sheet) (count_of sheet) (omega arith)) (λ sized.
    says_row (low (omega arith)) (eqb_tells (interval_of sheet) 0) (λ some.
    says_row (inr refl) (tells-iff (λ w. (omega arith, w.1)) (λ w. (omega arith, w.1)) (share-tells (edition_of sheet) (round_of sheet) (share_of sheet))) (λ right. says_none))))))))

-- a record's refusal says it of the record's rows
record-says : (n : ℕ) (at : ℕ → Record) (k : ℕ) → Says RuleNumber (record_rows n at k) (record_refusal n at k)
unfolding record_rows record_refusal refusal_of taken
record-says n at k =
    says_row (low (omega arith)) (outside-tells (at k).cost (at k).deadline) (λ cost.
    says_row (low (omega arith)) (outside-tells (at k).backup (at k).deadline) (λ backup.
    says_row (low (omega arith)) (ltb-tells (at k).period (at k).deadline) (λ deadline.
    says_row (low (omega arith)) (or-tells (outside-tells (at k).priority n) (some-tells (λ j. eqb_tells (at j).priority (at k).priority) k)) (λ priority.
    says_row (low (omega arith)) (outside-tells (at k).fault_priority (at k).priority) (λ fault. says_none)))))

-- the records' refusal says it of their rows
records-say : (n : ℕ) (at : ℕ → Record) → Says RuleNumber (records_rows n at) (records_refusal n at)
unfolding records_refusal
records-say n at = says-below rule-positive (record_rows n at) (record_refusal n at) (record-says n at) n

-- what a sheet's refusal says of its rows
pub sheet-says : (sheet : List ℕ) → Says RuleNumber (sheet_rows sheet) (sheet_refusal sheet)
unfolding sheet_refusal
sheet-says sheet = says-joined rule-positive (header_rows sheet) _ (header-says sheet) (records-say (count_of sheet) (sheet_record sheet))

-- a sheet's refusal is given in the order of its rows
pub sheet-in-order : (sheet : List ℕ) → InOrder RuleNumber (sheet_rows sheet) (sheet_refusal sheet)
sheet-in-order sheet = in_order rule-positive (sheet-says sheet)

-- a round and a share are the whole processor's exactly if both are 1
pub whole_tells : (round share : ℕ) → Tells ((round ≡ 1) × (share ≡ 1)) (is_whole round share)
unfolding is_whole
whole_tells round share = and-tells (eqb_tells round 1) (eqb_tells share 1)

-- what the refusal of a sheet where a whole processor is asked for says of its rows
pub whole-positive : (r : ℕ) → WholeNumber r → 0 < r
whole-positive r (inl k) = rule-positive r k
whole-positive r (inr e) = omega arith

pub whole_says : (sheet : List ℕ) → Says WholeNumber (whole_rows sheet) (whole_sheet_refusal sheet)
unfolding whole_sheet_refusal shared_refusal
whole_says sheet = says-joined whole-positive (sheet_rows sheet) _ (says-wider (λ r k. inl k) (sheet-says sheet)) (go (whole_tells (table_of sheet).round (table_of sheet).share))
  where
    go : {b : Bool} → Tells (((table_of sheet).round ≡ 1) × ((table_of sheet).share ≡ 1)) b → Says WholeNumber (row 19 (((table_of sheet).round ≡ 1) × ((table_of sheet).share ≡ 1) → ⊥) ∷ []) (cond b 0 19)
    go (holds whole) = none (λ shared. shared whole, tt)
    go (fails shared) = first (inr refl) (inl (refl, shared))

-- it is given in the order of these rows
pub whole-in-order : (sheet : List ℕ) → InOrder WholeNumber (whole_rows sheet) (whole_sheet_refusal sheet)
whole-in-order sheet = in_order whole-positive (whole_says sheet)

-- a table is in the old edition exactly with Q = S = 1
edition-tells : (round share : ℕ) → (edition_for round share ≡ 0 → ⊥) ↔ ((round ≡ 1) × (share ≡ 1) → ⊥)
unfolding edition_for is_whole
edition-tells round share = (λ n w. n (rw (w.0, w.1) refl), λ n e. n (whole-old round share e))

-- the refusal of a table by value, as far as rule 18, says it of the table's rows before its records
figures-say : (t : Table) → Says RuleNumber (figures_rows t) (figures_refusal t)
unfolding figures_rows
figures-say t =
    let shared = edition-tells t.round t.share in
    says_row (low (omega arith)) (outside-tells t.count 8) (λ counted.
    says_row (low (omega arith)) (eqb_tells t.interval 0) (λ some.
    says_row (inr refl) (tells-iff (λ w. (shared.0 w.0, w.1)) (λ w. (shared.1 w.0, w.1)) (share-tells (table_edition t) t.round t.share)) (λ right. says_none)))

-- the refusal of a table by value is given in the order of its rows
pub table-in-order : (t : Table) → InOrder RuleNumber (table_rows t) (table_refusal t)
unfolding table_refusal
table-in-order t = in_order rule-positive (says-joined rule-positive (figures_rows t) _ (figures-say t) (records-say t.count (record_at t.records)))
