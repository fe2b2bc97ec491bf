-- Each public call's contract leaves one answer: any two that its own reading admits are equal. Assumes nothing.
use Prim.Native.Nat.{ℕ}
use mathlib.Core.Path.{◌≡◌}
use Rattle.sheet.proofs.Unique.{both}
use Rattle.std.specs.Prelude.{Option, Result}
use Rattle.places.specs.declared.refusal.Refusal.{Refusal}
use Rattle.margins.proofs.margin.Reads as moved
use Rattle.margins.proofs.factor.Reads as scaled

pub margin-unique : (args : _) (a b : Result (Option ℕ) Refusal) (s : _) → moved.Learnt tt args a s → moved.Learnt tt args b s → a ≡ b
margin-unique args a b s = both

pub factor-unique : (args : _) (a b : Result (Option ℕ) Refusal) (s : _) → scaled.Learnt tt args a s → scaled.Learnt tt args b s → a ≡ b
factor-unique args a b s = both
