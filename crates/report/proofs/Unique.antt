-- Each public call's promise leaves one answer and one content of the lent output: any two that its contract admits are equal. `Learnt` is the contract's own reading: lifetimes, arguments, result, parameters at exit. Assumes nothing.
use mathlib.Core.Path.{◌≡◌}
use Prim.Native.Nat.{ℕ}
use contract.Lifetimes.{Lfts}
use Rattle.sheet.proofs.Unique.{both}
use Rattle.report.specs.declared.Line.{Line}
use Rattle.report.proofs.named_line.Reads as named
use Rattle.report.proofs.saying_line.Reads as saying
use Rattle.report.proofs.task_line.Reads as task
use Rattle.report.proofs.choice_line.Reads as choice
use Rattle.report.proofs.core_line.Reads as core
use Rattle.report.proofs.change_line.Reads as change
use Rattle.report.proofs.line_change_line.Reads as line-change
use Rattle.report.proofs.refused_at_line.Reads as refused-at
use Rattle.report.proofs.titled_line.Reads as titled
use Rattle.report.proofs.put_line.Reads as put

pub named-line-unique : (κs : Lfts 0) (args : _) (a b : Line) (s u : _) → named.Learnt κs args a s → named.Learnt κs args b u → a ≡ b
named-line-unique κs args a b s u = both

pub saying-line-unique : (κs : Lfts 0) (args : _) (a b : Line) (s u : _) → saying.Learnt κs args a s → saying.Learnt κs args b u → a ≡ b
saying-line-unique κs args a b s u = both

pub task-line-unique : (κs : Lfts 0) (args : _) (a b : Line) (s u : _) → task.Learnt κs args a s → task.Learnt κs args b u → a ≡ b
task-line-unique κs args a b s u = both

pub choice-line-unique : (κs : Lfts 0) (args : _) (a b : Line) (s u : _) → choice.Learnt κs args a s → choice.Learnt κs args b u → a ≡ b
choice-line-unique κs args a b s u = both

pub core-line-unique : (κs : Lfts 0) (args : _) (a b : Line) (s u : _) → core.Learnt κs args a s → core.Learnt κs args b u → a ≡ b
core-line-unique κs args a b s u = both

pub change-line-unique : (κs : Lfts 0) (args : _) (a b : Line) (s u : _) → change.Learnt κs args a s → change.Learnt κs args b u → a ≡ b
change-line-unique κs args a b s u = both

pub line-change-line-unique : (κs : Lfts 0) (args : _) (a b : Line) (s u : _) → line-change.Learnt κs args a s → line-change.Learnt κs args b u → a ≡ b
line-change-line-unique κs args a b s u = both

pub refused-at-line-unique : (κs : Lfts 0) (args : _) (a b : Line) (s u : _) → refused-at.Learnt κs args a s → refused-at.Learnt κs args b u → a ≡ b
refused-at-line-unique κs args a b s u = both

pub titled-line-unique : (κs : Lfts 1) (args : _) (a b : Line) (s u : _) → titled.Learnt κs args a s → titled.Learnt κs args b u → a ≡ b
titled-line-unique κs args a b s u = both

-- the output is the second parameter
pub put-line-unique : (κs : Lfts 1) (args : _) (a b : ℕ) (s u : _) → put.Learnt κs args a s → put.Learnt κs args b u → (a ≡ b) × (s.1.0.now ≡ u.1.0.now)
put-line-unique κs args a b s u p q = (both p.0 q.0, both p.1 q.1)
