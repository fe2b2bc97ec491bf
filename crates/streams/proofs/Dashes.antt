-- Comparing a name with the dash byte by byte tells what `is_dash` says. Assumes nothing.
use Rattle.std.proofs.Common.{◌≡◌, ℕ, refl, List, [], ◌∷◌, eqb, arith}
use lib.Pointwise.{pointwise}
use Rattle.streams.specs.Inputs.{is_dash}

pub dash-told : (name : List ℕ) → pointwise eqb name (45 ∷ []) ≡ is_dash name
unfolding is_dash
dash-told [] = refl
dash-told (byte ∷ []) = grind arith
dash-told (byte ∷ next ∷ rest) = grind arith
