-- The public call's contract leaves one answer: any two that its own reading admits are equal. Assumes nothing.
use mathlib.Core.Path.{◌≡◌}
use Rattle.sheet.proofs.Unique.{both}
use Rattle.std.specs.Prelude.{Result}
use Rattle.places.specs.declared.refusal.Refusal.{Refusal}
use Rattle.reasons.specs.declared.Reason.{Reason}
use Rattle.reasons.proofs.why.Reads as told

pub why-unique : (args : _) (a b : Result Reason Refusal) (s : _) → told.Learnt tt args a s → told.Learnt tt args b s → a ≡ b
why-unique args a b s = both
