-- "Bit-packed fields, most significant first, no gaps": values of given widths as one number, and the same bits under other widths.
use Rattle.std.specs.Prelude.{ℕ, ◌+◌, ◌*◌, ◌/◌, ◌%◌, ◌^◌, List, [], ◌∷◌}

-- how many bits the widths take together
abbrev pub bits_of : List ℕ → ℕ
bits_of [] = 0
bits_of (w ∷ ws) = w + bits_of ws

-- the number that the values make, each in its width, the first one highest; a value that is not there is 0
abbrev pub packed : List ℕ → List ℕ → ℕ
packed [] vs = 0
packed (w ∷ ws) [] = 0
packed (w ∷ ws) (v ∷ vs) = v * 2 ^ bits_of ws + packed ws vs

-- the values that a number holds in the widths, the highest bits first
abbrev pub unpacked : List ℕ → ℕ → List ℕ
unpacked [] n = []
unpacked (w ∷ ws) n = n / 2 ^ bits_of ws ∷ unpacked ws (n % 2 ^ bits_of ws)

-- the bits of the values in the widths `from`, read as values in the widths `to`
unfoldable pub regrouped : List ℕ → List ℕ → List ℕ → List ℕ
regrouped «from» to vs = unpacked to (packed «from» vs)
