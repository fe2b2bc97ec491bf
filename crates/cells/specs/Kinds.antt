-- What a byte of a line is: a blank, a digit, or one that sets cells apart.
use Rattle.std.specs.Prelude.{ℕ, ◌+◌, Bool, cond, ◌&&◌, ◌||◌, eqb, ltb, leb}

-- a space, a tab or a carriage return
unfoldable pub is_blank : ℕ → Bool
is_blank byte = eqb byte 32 || eqb byte 9 || eqb byte 13

-- what may stand around the words of a setting: blanks, a comma, a semicolon, `=`, `:`, double quotes
unfoldable pub is_loose : ℕ → Bool
is_loose byte = is_blank byte || eqb byte 44 || eqb byte 59 || eqb byte 61 || eqb byte 58 || eqb byte 34

-- a text's separator is a tab (9), a semicolon (59), a comma (44) or blanks (32); 0 stands for all that is loose
abbrev pub loose : ℕ
loose = 0

abbrev pub blanks : ℕ
blanks = 32

-- whether a byte sets cells apart
unfoldable pub separates : ℕ → ℕ → Bool
separates separator byte = cond (eqb separator loose) (is_loose byte) (cond (eqb separator blanks) (is_blank byte) (eqb byte separator))

-- "with blanks, any run separates": an empty cell between two of them is none
unfoldable pub runs : ℕ → Bool
runs separator = eqb separator loose || eqb separator blanks

-- 48 is the byte of 0, and 57 that of 9
unfoldable pub is_digit : ℕ → Bool
is_digit byte = leb 48 byte && leb byte 57

-- a decimal point or a decimal comma
unfoldable pub is_point : ℕ → Bool
is_point byte = eqb byte 46 || eqb byte 44

-- a byte that is shown as nothing
unfoldable pub is_control : ℕ → Bool
is_control byte = ltb byte 32 || eqb byte 127

-- "any case": a capital letter is its small one
unfoldable pub lower : ℕ → ℕ
lower byte = cond (leb 65 byte && leb byte 90) (byte + 32) byte

-- "`_`, `-` and blanks inside a name are alike", and play no part
unfoldable pub is_gap : ℕ → Bool
is_gap byte = is_blank byte || eqb byte 45 || eqb byte 95

-- brackets around a unit
unfoldable pub opens : ℕ → Bool
opens byte = eqb byte 40 || eqb byte 91

unfoldable pub closes : ℕ → Bool
closes byte = eqb byte 41 || eqb byte 93
