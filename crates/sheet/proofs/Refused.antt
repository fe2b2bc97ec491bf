-- What stands beside a refusal, in document 01's words: "A refusal returns its number with all other figures 0, a zero table, or an empty part of the sheet; output
-- buffers stay as they were"; what stands beside 0 where a table is read; and when 11 and 12, which are tried after the rules, are given. Assumes nothing.
use Prim.Native.Nat.{ℕ, ◌+◌, ◌*◌, ◌≤◌, ◌<◌}
use mathlib.Core.Path.{◌≡◌, refl, sym, ap, subst, ◌∙◌}
use mathlib.Core.Bool.{Bool, cond}
use mathlib.Core.List.{List, []}
use mathlib.Core.Logic.{◌⊎◌, ◌↔◌, ⊎_elim}
use native.Mathlib.Decide.{ℕ_discrete}
use native.Mathlib.Omega.{arith}
use native.Mathlib.Nat.{add-zero}
use borrow.Author.Tests.{ne_eqb}
use lib.Dec.{eqb}
use lib.ListN.{length, get_or, replicate, get_or-replicate}
use denote.Ref.{Bor}
use Rattle.std.specs.Prelude.{Result, Ok, Err}
use Rattle.places.specs.declared.refusal.Refusal.{Refusal}
use Rattle.places.specs.Refusals.{or_else}
use Rattle.places.specs.Answered.{numbered}
use Rattle.places.proofs.Tells.{Tells, holds, fails, ltb-tells}
use Rattle.places.proofs.Filled.{length-filled, filled_at, filled-past}
use Rattle.places.proofs.Refusals.{next-of, first_of, none_of}
use Rattle.sheet.specs.declared.Record.{Record}
use Rattle.sheet.specs.declared.Table.{Table}
use Rattle.sheet.specs.Layout.{count_of, interval_of, round_of, share_of, header_size, table_edition, table_size, size_of, part_of, record_of, sheet_record, room, table_of, no_record, no_table}
use Rattle.sheet.specs.Rules.{header_refusal, sheet_refusal, table_refusal}
use Rattle.sheet.specs.Broken.{RuleNumber}
use Rattle.sheet.specs.Answers.{read_answer, unjudged_answer, ranked_answer, columns_left, faults_left, ranks_left, write_refusal, write_answer, write_leaves, place_refusal, part_start, part_bytes, Part, Excerpted}
use Rattle.sheet.proofs.Order.{sheet-in-order, table-in-order}
use Rattle.sheet.proofs.Cases.{good-header, good-sheet}

-- a number that is none of the rules' and is tried after them
module _ (rule number : ℕ) (known : (rule ≡ 0) ⊎ RuleNumber rule) (new : (10 < number) × (number ≡ 18 → ⊥)) where
  other : rule ≡ number → ⊥
  other e = ⊎_elim (λ z. omega arith) (⊎_elim (λ h. omega arith) (λ h. new.1 (sym e ∙ h))) known

  -- it is given exactly if no rule is broken and what is tried next gives it
  pub tried-last : (next : ℕ) → (or_else rule next ≡ number) ↔ ((rule ≡ 0) × (next ≡ number))
  tried-last next = (λ e. go (ℕ_discrete rule 0) e, λ h. next-of next h.0 ∙ h.1)
    where
      go : Dec (rule ≡ 0) → or_else rule next ≡ number → (rule ≡ 0) × (next ≡ number)
      go (yes z) e = (z, sym (next-of next z) ∙ e)
      go (no z) e = absurd (other (sym (first_of rule next z) ∙ e))

  -- so exactly if none is and its own test holds
  pub given-if : {P : Type 0} {b : Bool} → Tells P b → (or_else rule (cond b number 0) ≡ number) ↔ ((rule ≡ 0) × P)
  given-if (holds p) = (λ e. (((tried-last number).0 e).0, p), λ h. (tried-last number).1 (h.0, refl))
  given-if (fails n) = (λ e. absurd (omega (arith, ((tried-last 0).0 e).1)), λ h. absurd (n h.1))

  -- or exactly if none is and its test fails
  pub given-unless : {P : Type 0} {b : Bool} → Tells P b → (or_else rule (cond b 0 number) ≡ number) ↔ ((rule ≡ 0) × (P → ⊥))
  given-unless (holds p) = (λ e. absurd (omega (arith, ((tried-last 0).0 e).1)), λ h. absurd (h.1 p))
  given-unless (fails n) = (λ e. (((tried-last number).0 e).0, n), λ h. (tried-last number).1 (h.0, refl))

  -- and then nothing is refused exactly if no rule is broken and its test holds
  pub passed-if : {P : Type 0} {b : Bool} → Tells P b → (or_else rule (cond b 0 number) ≡ 0) ↔ ((rule ≡ 0) × P)
  passed-if (holds p) = (λ e. ((none_of rule 0 e).0, p), λ h. next-of 0 h.0)
  passed-if (fails n) = (λ e. absurd (omega (arith, (none_of rule number e).1)), λ h. absurd (n h.1))

-- The law of every call that refuses: it answers its number, and beside it a value where the number is 0 and nothing of that kind where it is not
module _ {A : Type 0} (refusal : ℕ) (value nothing : A) where
  pub beside-refusal : (refusal ≡ 0 → ⊥) → cond (eqb refusal 0) value nothing ≡ nothing
  beside-refusal broken = simp (ne_eqb refusal 0 broken)

  pub beside_none : refusal ≡ 0 → cond (eqb refusal 0) value nothing ≡ value
  beside_none fine = simp fine

-- a record whose figures are all 0
pub record Zeros (r : Record) : Type 0 where
  pub cost : r.cost ≡ 0
  pub backup : r.backup ≡ 0
  pub deadline : r.deadline ≡ 0
  pub period : r.period ≡ 0
  pub priority : r.priority ≡ 0
  pub fault : r.fault_priority ≡ 0

-- "a zero table": all its figures are 0
pub record ZeroTable (t : Table) : Type 0 where
  pub count : t.count ≡ 0
  pub interval : t.interval ≡ 0
  pub round : t.round ≡ 0
  pub share : t.share ≡ 0
  pub eight : length t.records ≡ 8
  pub records : (place : ℕ) → place < 8 → (other : Record) → Zeros (get_or t.records place other)

-- the record of zeros is one
zeros : (r : Record) → r ≡ no_record → Zeros r
zeros r e =
    record {
      cost = ap (λ (x : Record). x.cost) e;
      backup = ap (λ (x : Record). x.backup) e;
      deadline = ap (λ (x : Record). x.deadline) e;
      period = ap (λ (x : Record). x.period) e;
      priority = ap (λ (x : Record). x.priority) e;
      fault = ap (λ (x : Record). x.fault_priority) e;
    }

-- and the table of zeros
no_table_lem : ZeroTable no_table
no_table_lem = record { count = refl; interval = refl; round = refl; share = refl; eight = refl; records = λ place below other. zeros _ (get_or-replicate 8 place no_record other below) }

-- a table that holds what stands in a sheet: the header's fields, each record's nine bytes below the count, and zeros past it
pub record TableFrom (s : List ℕ) (t : Table) : Type 0 where
  pub count : t.count ≡ count_of s
  pub interval : t.interval ≡ interval_of s
  pub round : t.round ≡ round_of s
  pub share : t.share ≡ share_of s
  pub eight : length t.records ≡ 8
  pub records : (place : ℕ) → place < count_of s → (other : Record) → get_or t.records place other ≡ record_of (part_of s place)
  pub past : (place : ℕ) → count_of s ≤ place → place < 8 → (other : Record) → Zeros (get_or t.records place other)

-- such is the table of a sheet of up to eight records, good or not
table-from : (s : List ℕ) → count_of s ≤ 8 → TableFrom s (table_of s)
unfolding table_of room sheet_record
table-from s few =
    record {
      count = refl;
      interval = refl;
      round = refl;
      share = refl;
      eight = length-filled (sheet_record s) (count_of s) (replicate 8 no_record);
      records = λ place below other. filled_at (sheet_record s) (count_of s) (replicate 8 no_record) other few place below;
      past = λ place high below other. zeros _ (filled-past (sheet_record s) (count_of s) (replicate 8 no_record) other place high ∙ get_or-replicate 8 place no_record other below);
    }

-- beside a refusal stand zeros, and beside 0 such a table
module _ (s : List ℕ) (refusal : ℕ) where
  zeros-beside : (refusal ≡ 0 → ⊥) → ZeroTable (cond (eqb refusal 0) (table_of s) no_table)
  zeros-beside broken = subst ZeroTable (sym (beside-refusal refusal (table_of s) no_table broken)) no_table_lem

  table_beside : refusal ≡ 0 → count_of s ≤ 8 → TableFrom s (cond (eqb refusal 0) (table_of s) no_table)
  table_beside good few = subst (TableFrom s) (sym (beside_none refusal (table_of s) no_table good)) (table-from s few)

module _ (s : List ℕ) where
  -- `read`: a refused sheet has its number beside a zero table
  pub read-refused : (sheet_refusal s ≡ 0 → ⊥) → ((read_answer s).refusal ≡ sheet_refusal s) × ZeroTable (read_answer s).table
  unfolding read_answer
  read-refused broken = (refl, zeros-beside s (sheet_refusal s) broken)

  -- a good one 0 beside the table that it holds
  pub read_whole : sheet_refusal s ≡ 0 → ((read_answer s).refusal ≡ 0) × TableFrom s (read_answer s).table
  unfolding read_answer
  read_whole good = (good, table_beside s (sheet_refusal s) good (good-sheet s good).0.count.1)

  -- `read_ranked`: a refused one its number beside zeros, and what is lent stays as it was
  pub ranked-refused : (sheet_refusal s ≡ 0 → ⊥) → (columns faults ranks : List ℕ)
      → (ranked_answer s ≡ record { refusal = sheet_refusal s; count = 0; interval = 0; round = 0; share = 0 }) × (columns_left s columns ≡ columns) × (faults_left s faults ≡ faults) × (ranks_left s ranks ≡ ranks)
  unfolding ranked_answer columns_left faults_left ranks_left
  ranked-refused broken columns faults ranks = (simp (ne_eqb (sheet_refusal s) 0 broken), beside-refusal (sheet_refusal s) _ columns broken, beside-refusal (sheet_refusal s) _ faults broken, beside-refusal (sheet_refusal s) _ ranks broken)

  -- `read_unjudged`: likewise for a refused header
  pub unjudged-refused : (header_refusal s ≡ 0 → ⊥) → ((unjudged_answer s).refusal ≡ header_refusal s) × ZeroTable (unjudged_answer s).table
  unfolding unjudged_answer
  unjudged-refused broken = (refl, zeros-beside s (header_refusal s) broken)

  -- and for a good one, whose records are there as they stand, good or not
  pub unjudged-whole : header_refusal s ≡ 0 → ((unjudged_answer s).refusal ≡ 0) × TableFrom s (unjudged_answer s).table
  unfolding unjudged_answer
  unjudged-whole good = (good, table_beside s (header_refusal s) good (good-header s good).count.1)

module _ (t : Table) (out : List ℕ) where
  -- `write`: 11 exactly if the table is good and "the lent output is shorter than what is to be written", 3 + 9n bytes, or in the new edition 7 + 9n
  pub write-11 : (write_refusal t out ≡ 11) ↔ ((table_refusal t ≡ 0) × (length out < header_size (table_edition t) + 9 * t.count))
  unfolding write_refusal table_size size_of
  write-11 = given-if (table_refusal t) 11 (table-in-order t).range (omega arith) (ltb-tells (length out) (header_size (table_edition t) + 9 * t.count))

  -- refused, no byte is written and the output stays as it was
  pub write-refused-leaves : (write_refusal t out ≡ 0 → ⊥) → ((write_answer t out).refusal ≡ write_refusal t out) × ((write_answer t out).written ≡ 0) × (write_leaves t out ≡ out)
  unfolding write_answer write_leaves
  write-refused-leaves broken = (refl, beside-refusal (write_refusal t out) _ 0 broken, beside-refusal (write_refusal t out) _ out broken)

-- `judge_place`: 12 exactly if the sheet is good and "the record place asked for is not below the count"
pub place-12 : (s : List ℕ) (place : ℕ) → (place_refusal s place ≡ 12) ↔ ((sheet_refusal s ≡ 0) × (count_of s ≤ place))
unfolding place_refusal
place-12 s place =
    let last = given-unless (sheet_refusal s) 12 (sheet-in-order s).range (omega arith) (ltb-tells place (count_of s)) in
    (λ e. let h = last.0 e in (h.0, omega arith), λ h. last.1 (h.0, λ below. omega arith))

module _ (sheet : Bor (List ℕ)) (place : ℕ) (broken : place_refusal sheet.now place ≡ 0 → ⊥) where
  -- `record_part`: refused, the part is empty, and stands at the sheet's start
  pub part-refused : (part : Bor (List ℕ)) → Part sheet place part → (part.now ≡ []) × (part.ref_ptr.0 ≡ sheet.ref_ptr.0) × (part.ref_ptr.1 ≡ sheet.ref_ptr.1)
  unfolding part_start part_bytes
  part-refused part p =
      let refusal = place_refusal sheet.now place in
      (p.content ∙ beside-refusal refusal _ [] broken, p.block, p.offset ∙ ap (λ (n : ℕ). sheet.ref_ptr.1 + n) (beside-refusal refusal _ 0 broken) ∙ add-zero _)

  -- `record_of`: no part, and the refusal of the number
  pub excerpt-refused : (excerpt : Result (Bor (List ℕ)) Refusal) → Excerpted sheet place excerpt → excerpt ≡ Err (numbered (place_refusal sheet.now place))
  excerpt-refused (Ok part) e = absurd (broken e.0)
  excerpt-refused (Err refusal) e = ap Err e.1
