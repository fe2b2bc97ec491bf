-- What a caller learns of an answer: a table that was read is the sheet's, and a refusal is that of the rules. And that each refusal is a number of the tables. Assumes nothing.
use Prim.Native.Nat.{ℕ}
use mathlib.Core.Path.{◌≡◌, sym, ◌∙◌}
use mathlib.Core.List.{List}
use mathlib.Core.Logic.{◌⊎◌, inl, inr}
use native.Mathlib.Decide.{ℕ_discrete}
use native.Mathlib.Omega.{arith}
use lib.Dec.{ltb}
use lib.ListN.{length}
use borrow.Author.Tests.{ne_eqb}
use Rattle.std.specs.Prelude.{Ok, Err}
use Rattle.places.specs.declared.refusal.Refusal.{Refusal}
use Rattle.places.specs.Answered.{numbered, answered}
use Rattle.places.proofs.Refusals.{none_of}
use Rattle.places.proofs.Answered.{good_of, value_of, broken_of, refusal_of, err_numbered, Known, known_else, known_if, known_unless}
use Rattle.sheet.specs.declared.Table.{Table}
use Rattle.sheet.specs.declared.Broken.{Broken}
use Rattle.sheet.specs.Told.{Judged}
use Rattle.sheet.specs.Layout.{count_of, table_of, table_size, is_whole}
use Rattle.sheet.specs.Rules.{header_refusal, sheet_refusal, table_refusal, shared_refusal, whole_refusal, whole_sheet_refusal}
use Rattle.sheet.specs.Answers.{read_answer, unjudged_answer, whole_answer, broken_at, write_refusal, rewrite_refusal, place_refusal}
use Rattle.sheet.specs.Broken.{RuleNumber}
use Rattle.sheet.proofs.Order.{sheet-in-order, table-in-order}

module _ (s : List ℕ) {table : Table} where
  -- a table that was read is the good sheet's
  pub read-told : Ok table ≡ answered (read_answer s).refusal (read_answer s).table → (sheet_refusal s ≡ 0) × (table ≡ table_of s)
  unfolding read_answer
  read-told is = let good = good_of _ _ is in (good, value_of _ _ is ∙ simp good)

  -- and so is one whose records were not judged, where the header is good
  pub unjudged-told : Ok table ≡ answered (unjudged_answer s).refusal (unjudged_answer s).table → (header_refusal s ≡ 0) × (table ≡ table_of s)
  unfolding unjudged_answer
  unjudged-told is = let good = good_of _ _ is in (good, value_of _ _ is ∙ simp good)

  -- and one of a whole processor
  pub whole-told : Ok table ≡ answered (whole_answer s).refusal (whole_answer s).table → (whole_sheet_refusal s ≡ 0) × (table ≡ table_of s)
  unfolding whole_answer
  whole-told is = let good = good_of _ _ is in (good, value_of _ _ is ∙ simp good)

-- a sheet that is not refused where a whole processor is asked for is good
pub whole-good : (s : List ℕ) → whole_sheet_refusal s ≡ 0 → sheet_refusal s ≡ 0
unfolding whole_sheet_refusal
whole-good s fine = (none_of (sheet_refusal s) _ fine).0

-- each refusal is a number of the tables
rule-known : {r : ℕ} → (r ≡ 0) ⊎ RuleNumber r → Known r
rule-known (inl none) = inl none
rule-known (inr (inl few)) = inr (inl (few.0, omega (arith, few.1)))
rule-known (inr (inr is)) = inr (inl (omega (arith, is), omega (arith, is)))

pub sheet-known : (s : List ℕ) → Known (sheet_refusal s)
sheet-known s = rule-known (sheet-in-order s).range

pub table-known : (t : Table) → Known (table_refusal t)
table-known t = rule-known (table-in-order t).range

shared-known : (t : Table) → Known (shared_refusal t)
unfolding shared_refusal
shared-known t = known_unless (is_whole t.round t.share) 19 (inl (omega arith, omega arith))

pub whole-known : (s : List ℕ) → Known (whole_sheet_refusal s)
unfolding whole_sheet_refusal
whole-known s = known_else (sheet-known s) (shared-known (table_of s))

pub whole-table-known : (t : Table) → Known (whole_refusal t)
whole-table-known t = known_else (table-known t) (shared-known t)

pub write-known : (t : Table) (out : List ℕ) → Known (write_refusal t out)
unfolding write_refusal
write-known t out = known_else (table-known t) (known_if (ltb (length out) (table_size t)) 11 (inl (omega arith, omega arith)))

pub rewrite-known : (s out : List ℕ) → Known (rewrite_refusal s out)
unfolding rewrite_refusal
rewrite-known s out = known_else (sheet-known s) (known_if (ltb (length out) (length s)) 11 (inl (omega arith, omega arith)))

pub place-known : (s : List ℕ) (place : ℕ) → Known (place_refusal s place)
unfolding place_refusal
place-known s place = known_else (sheet-known s) (known_unless (ltb place (count_of s)) 12 (inl (omega arith, omega arith)))

-- an answer with the place: what was judged, and where
module _ (j : Judged) where
  pub broken-good : j.refusal ≡ 0 → Ok tt ≡ broken_at j
  unfolding broken_at
  broken-good good = simp good

  broken-some : (j.refusal ≡ 0 → ⊥) → broken_at j ≡ Err (record { refusal = numbered j.refusal; place = j.place })
  unfolding broken_at
  broken-some some = simp (ne_eqb j.refusal 0 some)

  pub broken-is : {e : Refusal} {place : ℕ} → Err e ≡ answered {A = Unit {0}} j.refusal tt → place ≡ j.place → Err (record { refusal = e; place = place }) ≡ broken_at j
  broken-is {e} {place} is at = rw (refusal_of _ _ is, at) (sym (broken-some (broken_of _ _ is)))

  pub broken-none : {u : Unit {0}} → Ok u ≡ broken_at j → j.refusal ≡ 0
  broken-none is = go (ℕ_discrete j.refusal 0)
    where
      go : Dec (j.refusal ≡ 0) → j.refusal ≡ 0
      go (yes good) = good
      go (no some) = absurd (cc (is, broken-some some))

  -- the refusal of what was refused, whatever else is asked for
  pub broken-refused : {A : Type 0} (a : A) {b : Broken} → Err b ≡ broken_at j → Err b.refusal ≡ answered j.refusal a
  broken-refused a {b} is = go (ℕ_discrete j.refusal 0)
    where
      go : Dec (j.refusal ≡ 0) → Err b.refusal ≡ answered j.refusal a
      go (yes good) = absurd (cc (is, broken-good good))
      go (no some) = err_numbered j.refusal a some (cc (is, broken-some some))

  -- and its place
  pub broken-place : {b : Broken} → Err b ≡ broken_at j → b.place ≡ j.place
  broken-place {b} is = go (ℕ_discrete j.refusal 0)
    where
      go : Dec (j.refusal ≡ 0) → b.place ≡ j.place
      go (yes good) = absurd (cc (is, broken-good good))
      go (no some) = cc (is, broken-some some)
