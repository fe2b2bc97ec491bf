-- Each public call's promise leaves one answer: any two that its contract admits are equal. What a call writes is no part of its answer. `Learnt` is the contract's own reading: lifetimes, arguments, result, parameters at exit. Assumes nothing.
use Rattle.std.proofs.Common.{◌≡◌, ℕ, Option, List, length, ap, Bor}
use contract.Lifetimes.{Lfts}
use Rattle.sheet.specs.declared.Table.{Table}
use Rattle.sheet.proofs.Unique.{both, SamePart}
use Rattle.rows.specs.declared.Tally.{Tally}
use Rattle.rows.proofs.none.Reads as none
use Rattle.rows.proofs.next.Reads as next
use Rattle.rows.proofs.byte.Reads as byte
use Rattle.rows.proofs.first.Reads as first
use Rattle.rows.proofs.figure.Reads as figure
use Rattle.rows.proofs.table.Reads as table
use Rattle.rows.proofs.choice.Reads as choice
use Rattle.rows.proofs.begin.Reads as begin
use Rattle.rows.proofs.say.Reads as say
use Rattle.rows.proofs.say_number.Reads as say-number
use Rattle.rows.proofs.say_spaced.Reads as say-spaced
use Rattle.rows.proofs.say_bytes.Reads as say-bytes
use Rattle.rows.proofs.end.Reads as end
use Rattle.rows.proofs.total.Reads as total

pub none-unique : (κs : Lfts 0) (args : _) (a b : Tally) (s u : _) → none.Learnt κs args a s → none.Learnt κs args b u → a ≡ b
none-unique κs args a b s u = both

pub next-unique : (κs : Lfts 1) (args : _) (a b : ℕ) (s u : _) → next.Learnt κs args a s → next.Learnt κs args b u → a ≡ b
next-unique κs args a b s u p q = both p.exact q.exact

pub byte-unique : (κs : Lfts 1) (args : _) (a b : ℕ) (s u : _) → byte.Learnt κs args a s → byte.Learnt κs args b u → a ≡ b
byte-unique κs args a b s u = both

pub first-unique : (κs : Lfts 1) (args : _) (a b : Bor (List ℕ)) (s u : _) → first.Learnt κs args a s → first.Learnt κs args b u → SamePart a b
first-unique κs args a b s u p q =
    record { block = both p.block q.block; offset = both p.offset q.offset; size = ap length (both p.content q.content); content = both p.content q.content }

pub figure-unique : (κs : Lfts 1) (args : _) (a b : ℕ) (s u : _) → figure.Learnt κs args a s → figure.Learnt κs args b u → a ≡ b
figure-unique κs args a b s u = both

pub table-unique : (κs : Lfts 2) (args : _) (a b : Table) (s u : _) → table.Learnt κs args a s → table.Learnt κs args b u → a ≡ b
table-unique κs args a b s u = both

pub choice-unique : (κs : Lfts 0) (args : _) (a b : List ℕ) (s u : _) → choice.Learnt κs args a s → choice.Learnt κs args b u → a ≡ b
choice-unique κs args a b s u = both

pub begin-unique : (κs : Lfts 1) (args : _) (a b : ℕ) (s u : _) → begin.Learnt κs args a s → begin.Learnt κs args b u → a ≡ b
begin-unique κs args a b s u = both

pub say-unique : (κs : Lfts 2) (args : _) (a b : Option ℕ) (s u : _) → say.Learnt κs args a s → say.Learnt κs args b u → a ≡ b
say-unique κs args a b s u = both

pub say-number-unique : (κs : Lfts 1) (args : _) (a b : Option ℕ) (s u : _) → say-number.Learnt κs args a s → say-number.Learnt κs args b u → a ≡ b
say-number-unique κs args a b s u = both

pub say-spaced-unique : (κs : Lfts 1) (args : _) (a b : Option ℕ) (s u : _) → say-spaced.Learnt κs args a s → say-spaced.Learnt κs args b u → a ≡ b
say-spaced-unique κs args a b s u = both

pub say-bytes-unique : (κs : Lfts 2) (args : _) (a b : Option ℕ) (s u : _) → say-bytes.Learnt κs args a s → say-bytes.Learnt κs args b u → a ≡ b
say-bytes-unique κs args a b s u = both

pub end-unique : (κs : Lfts 1) (args : _) (a b : Tally) (s u : _) → end.Learnt κs args a s → end.Learnt κs args b u → a ≡ b
end-unique κs args a b s u = both

pub total-unique : (κs : Lfts 0) (args : _) (a b : Unit {0}) (s u : _) → total.Learnt κs args a s → total.Learnt κs args b u → a ≡ b
total-unique κs args a b s u = both
