-- Where what is said of an answer ends in the list that expects it.
use Rattle.std.specs.Prelude.{ℕ, ◌+◌, ◌/◌, ◌%◌, Bool, true, false, cond, Option, Some, None, List, [], ◌∷◌, length, drop, ◌==◌, nat_lt, slice_index}
use Rattle.rows.specs.Lists.{number_at}

-- the end of what does not stand in the list
abbrev pub missed : ℕ
missed = 18446744073709551615

-- whether a list begins with a text
unfoldable pub begins : List ℕ → List ℕ → Bool
begins list [] = true
begins [] (x ∷ text) = false
begins (y ∷ list) (x ∷ text) = cond (y == x) (begins list text) false

-- where a text ends that stands at a place
unfoldable pub said : List ℕ → ℕ → List ℕ → ℕ
said list at text = cond (begins (drop at list) text) (at + length text) missed

-- where a number ends that stands at a place
unfoldable pub number_said : List ℕ → ℕ → ℕ → ℕ
number_said list at value = cond ((number_at list at).«end» == at) missed (cond ((number_at list at).value == value) (number_at list at).«end» missed)

-- a hexadecimal digit
unfoldable pub glyph : ℕ → ℕ
glyph figure = cond (nat_lt figure 10) (48 + figure) (87 + figure)

-- a byte by two hexadecimal digits, after a space
unfoldable pub hex_text : ℕ → List ℕ
hex_text value = 32 ∷ glyph (value / 16 % 16) ∷ glyph (value % 16) ∷ []

-- where bytes end that stand at a place, each by its digits
unfoldable pub bytes_said : List ℕ → ℕ → List ℕ → ℕ
bytes_said list at [] = at
bytes_said list at (value ∷ values) = bytes_said list (said list at (hex_text value)) values

-- the same ends, none where a part does not stand in the list or nothing before it did
unfoldable pub text_end : List ℕ → Option ℕ → List ℕ → Option ℕ
text_end list None text = None
text_end list (Some at) text = cond (begins (drop at list) text) (Some (at + length text)) None

unfoldable pub number_end : List ℕ → Option ℕ → ℕ → Option ℕ
number_end list None value = None
number_end list (Some at) value = cond ((number_at list at).«end» == at) None (cond ((number_at list at).value == value) (Some (number_at list at).«end») None)

unfoldable pub bytes_end : List ℕ → Option ℕ → List ℕ → Option ℕ
bytes_end list at [] = at
bytes_end list at (value ∷ values) = bytes_end list (text_end list at (hex_text value)) values

-- whether what was said ends where a line does
unfoldable pub ends_line : List ℕ → Option ℕ → Bool
ends_line list None = false
ends_line list (Some at) = slice_index list at == 10
