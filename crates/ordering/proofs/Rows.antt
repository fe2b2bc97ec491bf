-- Keys sorted by computation: none, one, in order already, the other way round, and with a key that is there three times. Assumes nothing.
use mathlib.Core.Path.{◌≡◌, refl}
use mathlib.Core.List.{[], ◌∷◌}
use Rattle.ordering.specs.Sorted.{put_into, sorted}

pub row-none : sorted [] ≡ []
unfolding sorted
row-none = refl

pub row_one : sorted (7 ∷ []) ≡ 7 ∷ []
unfolding put_into sorted
row_one = refl

pub row-in-order : sorted (1 ∷ 2 ∷ 5 ∷ 9 ∷ []) ≡ 1 ∷ 2 ∷ 5 ∷ 9 ∷ []
unfolding put_into sorted
row-in-order = refl

pub row-turned : sorted (9 ∷ 5 ∷ 2 ∷ 1 ∷ []) ≡ 1 ∷ 2 ∷ 5 ∷ 9 ∷ []
unfolding put_into sorted
row-turned = refl

pub row-again : sorted (5 ∷ 18446744073709551615 ∷ 0 ∷ 5 ∷ 3 ∷ 5 ∷ []) ≡ 0 ∷ 3 ∷ 5 ∷ 5 ∷ 5 ∷ 18446744073709551615 ∷ []
unfolding put_into sorted
row-again = refl
