-- Each public call's promise leaves one answer: any two that its contract admits are equal. `Learnt` is the contract's own reading: lifetimes, arguments, result, parameters at exit. Assumes nothing.
use Prim.Native.Nat.{ℕ}
use mathlib.Core.Path.{◌≡◌}
use contract.Lifetimes.{Lfts}
use Rattle.cells.proofs.Unique.{both}
use Rattle.lines.specs.declared.Reading.{Reading}
use Rattle.lines.specs.declared.Understood.{Understood}
use Rattle.lines.proofs.after.Reads as counted
use Rattle.lines.proofs.no_reading.Reads as begun
use Rattle.lines.proofs.read_line.Reads as taken
use Rattle.lines.proofs.answer.Reads as answered

pub after-unique : (κs : Lfts 0) (args : _) (a b : ℕ) (s u : _) → counted.Learnt κs args a s → counted.Learnt κs args b u → a ≡ b
after-unique κs args a b s u = both

pub no-reading-unique : (κs : Lfts 0) (args : _) (a b : Reading) (s u : _) → begun.Learnt κs args a s → begun.Learnt κs args b u → a ≡ b
no-reading-unique κs args a b s u = both

pub read-line-unique : (κs : Lfts 1) (args : _) (a b : Reading) (s u : _) → taken.Learnt κs args a s → taken.Learnt κs args b u → a ≡ b
read-line-unique κs args a b s u = both

pub answer-unique : (κs : Lfts 1) (args : _) (a b : Understood) (s u : _) → answered.Learnt κs args a s → answered.Learnt κs args b u → a ≡ b
answer-unique κs args a b s u = both
