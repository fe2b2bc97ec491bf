-- The public call's contract leaves one answer: any two that its own reading admits are equal. Assumes nothing.
use mathlib.Core.Path.{◌≡◌}
use contract.Lifetimes.{Lfts}
use Rattle.sheet.proofs.Unique.{both}
use Rattle.std.specs.Prelude.{Result}
use Rattle.places.specs.declared.refusal.Refusal.{Refusal}
use Rattle.cores.specs.declared.Placing.{Placing}
use Rattle.cores.proofs.place.Reads as placed

pub place-unique : (κs : Lfts 1) (args : _) (a b : Result Placing Refusal) (s : _) → placed.Learnt κs args a s → placed.Learnt κs args b s → a ≡ b
place-unique κs args a b s = both
