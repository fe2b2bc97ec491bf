-- Each promise of places, as its contract is read, leaves one answer: any two that it admits are equal. Assumes nothing.
use Prim.Native.Nat.{ℕ}
use mathlib.Core.Path.{◌≡◌, sym, ◌∙◌}
use Rattle.places.proofs.refusal.Refusal.number.Reads as number
use Rattle.places.proofs.refusal.told.Reads as told

pub Refusal-number-unique : (args : _) (a b : ℕ) (s : _) → number.Learnt tt args a s → number.Learnt tt args b s → a ≡ b
Refusal-number-unique args a b s p q = p ∙ sym q

pub told-unique : (args : _) (a b : ℕ) (s : _) → told.Learnt tt args a s → told.Learnt tt args b s → a ≡ b
told-unique args a b s p q = p ∙ sym q
