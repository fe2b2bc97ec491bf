-- Each public call's promise leaves one answer and one content of the lent output: any two that its contract admits are equal.
-- `Learnt` is the contract's own reading, what a caller learns of the arguments, the result and the arguments at exit; a theorem over it stands and falls with the `ensures`.
-- Of a part handed back, equal means the same block, offset, length and bytes; its ghost name, which no code holds, is not pinned. Assumes nothing.
use Prim.Native.Nat.{ℕ}
use mathlib.Core.Path.{◌≡◌, refl, sym, ap, ◌∙◌}
use mathlib.Core.Bool.{Bool}
use mathlib.Core.List.{List}
use seplogic.Ra.Ura.{Ura}
use base.Logic.{SProp}
use prog.Memory.{Memory}
use prog.Routine.{Routine}
use types.Logic.{Logic}
use contract.Lifetimes.{Lfts}
use contract.Monad.{Fun, fact}
use lib.ListN.{length}
use denote.Ref.{Bor}
use Rattle.std.specs.Prelude.{Result, Ok, Err}
use Rattle.places.specs.declared.refusal.Refusal.{Refusal}
use Rattle.sheet.specs.declared.Record.{Record}
use Rattle.sheet.specs.declared.Table.{Table}
use Rattle.sheet.specs.declared.Broken.{Broken}
use Rattle.sheet.specs.declared.Ranked.{Ranked}
use Rattle.sheet.specs.Answers.{Part, Excerpted}
use Rattle.sheet.proofs.no_record.Reads as zero-record
use Rattle.sheet.proofs.no_table.Reads as zero-table
use Rattle.sheet.proofs.said_size.Reads as size-said
use Rattle.sheet.proofs.judge.Reads as judged
use Rattle.sheet.proofs.judge_table.Reads as table-judged
use Rattle.sheet.proofs.judge_table_at.Reads as table-judged-at
use Rattle.sheet.proofs.is_whole.Reads as whole-told
use Rattle.sheet.proofs.judge_whole.Reads as whole-judged
use Rattle.sheet.proofs.read.Reads as reading
use Rattle.sheet.proofs.read_whole.Reads as whole-reading
use Rattle.sheet.proofs.read_unjudged.Reads as unjudged
use Rattle.sheet.proofs.read_ranked.Reads as ranked-reading
use Rattle.sheet.proofs.write.Reads as written
use Rattle.sheet.proofs.rewrite.Reads as rewritten
use Rattle.sheet.proofs.judge_place.Reads as place-judged
use Rattle.sheet.proofs.record_start.Reads as started
use Rattle.sheet.proofs.record_part.Reads as parted
use Rattle.sheet.specs.contracts.record_of as record_of

-- two values that are both a third are equal
pub both : {A : Type 0} {a b c : A} → a ≡ c → b ≡ c → a ≡ b
both p q = p ∙ sym q

pub no-record-unique : (given : _) (a b : Record) (left left' : _) → zero-record.Learnt tt given a left → zero-record.Learnt tt given b left' → a ≡ b
no-record-unique given a b left left' = both

pub no-table-unique : (given : _) (a b : Table) (left left' : _) → zero-table.Learnt tt given a left → zero-table.Learnt tt given b left' → a ≡ b
no-table-unique given a b left left' = both

pub said-size-unique : (κs : Lfts 1) (given : _) (a b : Result ℕ Refusal) (left left' : _) → size-said.Learnt κs given a left → size-said.Learnt κs given b left' → a ≡ b
said-size-unique κs given a b left left' = both

pub judge-unique : (κs : Lfts 1) (given : _) (a b : Result (Unit {0}) Refusal) (left left' : _) → judged.Learnt κs given a left → judged.Learnt κs given b left' → a ≡ b
judge-unique κs given a b left left' = both

pub read-unique : (κs : Lfts 1) (given : _) (a b : Result Table Refusal) (left left' : _) → reading.Learnt κs given a left → reading.Learnt κs given b left' → a ≡ b
read-unique κs given a b left left' = both

pub read-unjudged-unique : (κs : Lfts 1) (given : _) (a b : Result Table Refusal) (left left' : _) → unjudged.Learnt κs given a left → unjudged.Learnt κs given b left' → a ≡ b
read-unjudged-unique κs given a b left left' = both

pub read-whole-unique : (κs : Lfts 1) (given : _) (a b : Result Table Refusal) (left left' : _) → whole-reading.Learnt κs given a left → whole-reading.Learnt κs given b left' → a ≡ b
read-whole-unique κs given a b left left' = both

pub read-ranked-unique : (κs : Lfts 4) (given : _) (a b : Result Ranked Refusal) (left left' : _) → ranked-reading.Learnt κs given a left → ranked-reading.Learnt κs given b left'
    → (a ≡ b) × (left.1.0.now ≡ left'.1.0.now) × (left.1.1.0.now ≡ left'.1.1.0.now) × (left.1.1.1.0.now ≡ left'.1.1.1.0.now)
read-ranked-unique κs given a b left left' p q = (both p.0 q.0, both p.1.0 q.1.0, both p.1.1.0 q.1.1.0, both p.1.1.1 q.1.1.1)

pub judge-place-unique : (κs : Lfts 1) (given : _) (a b : Result (Unit {0}) Refusal) (left left' : _) → place-judged.Learnt κs given a left → place-judged.Learnt κs given b left' → a ≡ b
judge-place-unique κs given a b left left' = both

pub record-start-unique : (κs : Lfts 1) (given : _) (a b : Result ℕ Refusal) (left left' : _) → started.Learnt κs given a left → started.Learnt κs given b left' → a ≡ b
record-start-unique κs given a b left left' = both

pub write-unique : (κs : Lfts 1) (given : _) (a b : Result ℕ Refusal) (left left' : _) → written.Learnt κs given a left → written.Learnt κs given b left' → (a ≡ b) × (left.1.0.now ≡ left'.1.0.now)
write-unique κs given a b left left' p q = (both p.0 q.0, both p.1 q.1)

pub rewrite-unique : (κs : Lfts 2) (given : _) (a b : Result ℕ Refusal) (left left' : _) → rewritten.Learnt κs given a left → rewritten.Learnt κs given b left'
    → (a ≡ b) × (left.1.0.now ≡ left'.1.0.now)
rewrite-unique κs given a b left left' p q = (both p.0 q.0, both p.1 q.1)

pub judge-table-unique : (given : _) (a b : Result (Unit {0}) Refusal) (left left' : _) → table-judged.Learnt tt given a left → table-judged.Learnt tt given b left' → a ≡ b
judge-table-unique given a b left left' = both

pub judge-table-at-unique : (given : _) (a b : Result (Unit {0}) Broken) (left left' : _) → table-judged-at.Learnt tt given a left → table-judged-at.Learnt tt given b left' → a ≡ b
judge-table-at-unique given a b left left' = both

pub is-whole-unique : (given : _) (a b : Bool) (left left' : _) → whole-told.Learnt tt given a left → whole-told.Learnt tt given b left' → a ≡ b
is-whole-unique given a b left left' = both

pub judge-whole-unique : (given : _) (a b : Result (Unit {0}) Refusal) (left left' : _) → whole-judged.Learnt tt given a left → whole-judged.Learnt tt given b left' → a ≡ b
judge-whole-unique given a b left left' = both

-- the same part of the same memory
pub record SamePart (a b : Bor (List ℕ)) : Type 0 where
  pub block : a.ref_ptr.0 ≡ b.ref_ptr.0
  pub offset : a.ref_ptr.1 ≡ b.ref_ptr.1
  pub size : length a.now ≡ length b.now
  pub content : a.now ≡ b.now

same-part : (sheet : Bor (List ℕ)) (place : ℕ) (a b : Bor (List ℕ)) → Part sheet place a → Part sheet place b → SamePart a b
same-part sheet place a b p q =
    record { block = both p.block q.block; offset = both p.offset q.offset; size = ap length (both p.content q.content); content = both p.content q.content }

pub record-part-unique : (κs : Lfts 1) (given : _) (a b : Bor (List ℕ)) (left left' : _) → parted.Learnt κs given a left → parted.Learnt κs given b left' → SamePart a b
record-part-unique κs given a b left left' = same-part _ _ a b

-- both the same part, or both the same refusal
abbrev pub SameExcerpt : Result (Bor (List ℕ)) Refusal → Result (Bor (List ℕ)) Refusal → Type 0
SameExcerpt (Ok a) (Ok b) = SamePart a b
SameExcerpt (Ok a) (Err e) = ⊥
SameExcerpt (Err d) (Ok b) = ⊥
SameExcerpt (Err d) (Err e) = d ≡ e

-- of a result that holds a reference no reading is made; in every model the contract's clause is that the answer is `Excerpted`
pub record-of-says : {M : Type 1} {𝓤 : Ura M} (𝓛 : Logic 𝓤) (mem : Memory → SProp 𝓤) (run : Routine → Fun 𝓤) (κs : Lfts 1) (given : _) (answer : Result (Bor (List ℕ)) Refusal) (left : _)
    → (record_of.clauses 𝓛 mem run κs given).ensures tt answer left ≡ fact 𝓤 (Excerpted given.0 given.1.0 answer)
record-of-says 𝓛 mem run κs given answer left = refl

-- which leaves one
pub record-of-unique : (sheet : Bor (List ℕ)) (place : ℕ) (a b : Result (Bor (List ℕ)) Refusal) → Excerpted sheet place a → Excerpted sheet place b → SameExcerpt a b
record-of-unique sheet place (Ok a) (Ok b) p q = same-part sheet place a b p.1 q.1
record-of-unique sheet place (Ok a) (Err e) p q = q.0 p.0
record-of-unique sheet place (Err d) (Ok b) p q = p.0 q.0
record-of-unique sheet place (Err d) (Err e) p q = both p.1 q.1
