-- Ascending order on choices, the start before the first one, and those after a start.
use Rattle.std.specs.Prelude.{ℕ, Bool, true, false, ◌&&◌, ◌||◌, List, [], ◌∷◌, eqb, ltb}
use Rattle.choices.specs.Choices.{sift}

-- one choice comes before another: "the first record's entry decides, then the second's, and so on, smaller first"
unfoldable pub before : List ℕ → List ℕ → Bool
before [] c = false
before (a ∷ w) [] = false
before (a ∷ w) (b ∷ c) = ltb a b || (eqb a b && before w c)

-- "before the first choice, shown by eight zero entries"
unfoldable pub all_zero : List ℕ → Bool
all_zero [] = true
all_zero (q ∷ qs) = eqb q 0 && all_zero qs

-- the members of a list of choices that come after a start
unfoldable pub after_of : List ℕ → List (List ℕ) → List (List ℕ)
after_of start list = sift (before start) list
