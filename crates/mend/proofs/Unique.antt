-- The public call's promise leaves one answer and one content of the lent output: any two that its contract admits are equal. Assumes nothing.
use mathlib.Core.Path.{◌≡◌}
use contract.Lifetimes.{Lfts}
use Rattle.std.specs.Prelude.{Result}
use Rattle.places.specs.declared.refusal.Refusal.{Refusal}
use Rattle.sheet.proofs.Unique.{both}
use Rattle.mend.specs.declared.Mending.{Mending}
use Rattle.mend.proofs.mend.Reads as mended

pub mend-unique : (κs : Lfts 2) (given : _) (a b : Result Mending Refusal) (left left' : _) → mended.Learnt κs given a left → mended.Learnt κs given b left' → (a ≡ b) × (left.1.0.now ≡ left'.1.0.now)
mend-unique κs given a b left left' p q = (both p.0 q.0, both p.1 q.1)
