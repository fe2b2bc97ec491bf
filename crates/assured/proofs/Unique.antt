-- Each public call's contract leaves one answer and one content of the lent output: any two that its own reading admits are equal. Assumes nothing.
use mathlib.Core.Path.{◌≡◌}
use contract.Lifetimes.{Lfts}
use Prim.Native.Nat.{ℕ}
use Rattle.std.specs.Prelude.{Result}
use Rattle.places.specs.declared.refusal.Refusal.{Refusal}
use Rattle.sheet.proofs.Unique.{both}
use Rattle.choices.proofs.Unique.{both-parts}
use Rattle.choices.specs.declared.Stepped.{Stepped}
use Rattle.assured.specs.declared.Entry.{Entry}
use Rattle.assured.specs.declared.Times.{Times}
use Rattle.assured.proofs.assured_time.Reads as timed
use Rattle.assured.proofs.assured_times.Reads as times
use Rattle.assured.proofs.step.Reads as stepped
use Rattle.assured.proofs.list.Reads as listed

pub assured-time-unique : (args : _) (a b : Result Entry Refusal) (s : _) → timed.Learnt tt args a s → timed.Learnt tt args b s → a ≡ b
assured-time-unique args a b s = both

pub assured-times-unique : (args : _) (a b : Result Times Refusal) (s : _) → times.Learnt tt args a s → times.Learnt tt args b s → a ≡ b
assured-times-unique args a b s = both

pub step-unique : (args : _) (a b : Stepped) (s : _) → stepped.Learnt tt args a s → stepped.Learnt tt args b s → a ≡ b
step-unique args a b s = both

pub list-unique : (κs : Lfts 1) (args : _) (a b : Result ℕ Refusal) (s u : _) → listed.Learnt κs args a s → listed.Learnt κs args b u → (a ≡ b) × (s.1.0.now ≡ u.1.0.now)
list-unique κs args a b s u = both-parts
