-- What is taken of an input, and the name of standard input. Assumes nothing.
use Rattle.std.specs.Prelude.{ℕ, min, Bool, false, List, [], ◌∷◌, eqb, length}

-- as many bytes as a length says, or all of them
abbrev pub part_of : ℕ → List ℕ → ℕ
part_of most bytes = min most (length bytes)

-- the name of standard input, and of standard output, is a dash
unfoldable pub is_dash : List ℕ → Bool
is_dash [] = false
is_dash (byte ∷ []) = eqb byte 45
is_dash (byte ∷ next ∷ rest) = false
