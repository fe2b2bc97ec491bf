-- The public call's promise leaves one answer: any two that its contract admits are equal. Assumes nothing.
use mathlib.Core.Path.{◌≡◌, sym, ◌∙◌}
use Rattle.locks.specs.declared.Granting.{Granting}
use Rattle.locks.proofs.grant.Reads as granted

pub grant-unique : (given : _) (a b : Granting) (left left' : _) → granted.Learnt tt given a left → granted.Learnt tt given b left' → a ≡ b
grant-unique given a b left left' one other = one ∙ sym other
