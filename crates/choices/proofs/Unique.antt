-- Each public call's contract leaves one answer and one content of the lent output: any two that its own reading admits are equal. Assumes nothing.
use mathlib.Core.Path.{◌≡◌}
use contract.Lifetimes.{Lfts}
use Prim.Native.Nat.{ℕ}
use Rattle.std.specs.Prelude.{Result}
use Rattle.places.specs.declared.refusal.Refusal.{Refusal}
use Rattle.sheet.proofs.Unique.{both}
use Rattle.choices.specs.declared.Walk.{Walk}
use Rattle.choices.specs.declared.Stepped.{Stepped}
use Rattle.choices.proofs.Walk.start.Reads as started
use Rattle.choices.proofs.Walk.step.Reads as stepped
use Rattle.choices.proofs.Walk.step_by.Reads as stepped_by
use Rattle.choices.proofs.list.Reads as listed
use Rattle.choices.proofs.list_by.Reads as listed_by

-- of two answers that are each one value beside one content
pub both-parts : {A B : Type 0} {a b x : A} {c d y : B} → (a ≡ x) × (c ≡ y) → (b ≡ x) × (d ≡ y) → (a ≡ b) × (c ≡ d)
both-parts p q = (both p.0 q.0, both p.1 q.1)

pub Walk-start-unique : (args : _) (a b : Walk) (s : _) → started.Learnt tt args a s → started.Learnt tt args b s → a ≡ b
Walk-start-unique args a b s = both

pub Walk-step-unique : (args : _) (a b : Stepped) (s : _) → stepped.Learnt tt args a s → stepped.Learnt tt args b s → a ≡ b
Walk-step-unique args a b s = both

pub Walk-step-by-unique : (args : _) (a b : Stepped) (s : _) → stepped_by.Learnt tt args a s → stepped_by.Learnt tt args b s → a ≡ b
Walk-step-by-unique args a b s = both

pub list-unique : (κs : Lfts 1) (args : _) (a b : Result ℕ Refusal) (s u : _) → listed.Learnt κs args a s → listed.Learnt κs args b u → (a ≡ b) × (s.1.0.now ≡ u.1.0.now)
list-unique κs args a b s u = both-parts

pub list-by-unique : (κs : Lfts 1) (args : _) (a b : Result ℕ Refusal) (s u : _) → listed_by.Learnt κs args a s → listed_by.Learnt κs args b u → (a ≡ b) × (s.1.0.now ≡ u.1.0.now)
list-by-unique κs args a b s u = both-parts
