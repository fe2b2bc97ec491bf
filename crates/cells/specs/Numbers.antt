-- A cell as a number: digits only, leading zeros are fine, up to 2^64 − 1. And what stands in a cell that is quoted.
use Rattle.std.specs.Prelude.{ℕ, ◌+◌, ◌-◌, ◌*◌, Bool, true, false, cond, not, ◌&&◌, ◌||◌, List, [], ◌∷◌, eqb, ltb, length, get_or, take, drop}
use Rattle.cells.specs.declared.Number.{Number}
use Rattle.cells.specs.Kinds.{is_digit, is_point}

-- what stands between the quotes has each of its quotes twice
unfoldable pub paired : Bool → List ℕ → Bool
paired odd [] = not odd
paired odd (byte ∷ bytes) = cond (eqb byte 34) (paired (not odd) bytes) (not odd && paired odd bytes)

-- whether a cell stands in quotes
unfoldable pub is_quoted : List ℕ → Bool
is_quoted cell = eqb (get_or cell 0 0) 34

-- the bytes between the first and the last
unfoldable pub between : List ℕ → List ℕ
between cell = take (length cell - 1 - 1) (drop 1 cell)

-- a cell whose quotes are closed, with nothing after them
unfoldable pub is_closed : List ℕ → Bool
is_closed cell = cond (ltb (length cell) 2) false (eqb (get_or cell (length cell - 1) 0) 34 && paired false (between cell))

-- 42: "unclosed quotes, or bytes after the closing quote"
unfoldable pub quotes_refusal : List ℕ → ℕ
quotes_refusal cell = cond (is_quoted cell && not (is_closed cell)) 42 0

-- what a cell says: itself, or what stands between its quotes
unfoldable pub content_of : List ℕ → List ℕ
content_of cell = cond (ltb (length cell) 2) cell (cond (is_quoted cell) (between cell) cell)

-- digits, and with them points
unfoldable pub are_digits : Bool → List ℕ → Bool
are_digits points [] = true
are_digits points (byte ∷ bytes) = (is_digit byte || (points && is_point byte)) && are_digits points bytes

unfoldable pub digit_of : ℕ → ℕ
digit_of byte = cond (is_digit byte) (byte - 48) 0

-- no digit yet
abbrev pub no_number : Number
no_number = record { refusal = 0; value = 0 }

abbrev pub not_number : ℕ → Number
not_number refusal = record { refusal = refusal; value = 0 }

-- a number with one digit more: 31 where 64 bits do not hold it
unfoldable pub with_digit : Number → ℕ → Number
with_digit number byte =
    cond (eqb number.refusal 0)
    (cond (ltb 18446744073709551615 (number.value * 10 + digit_of byte)) (not_number 31) (record { refusal = 0; value = number.value * 10 + digit_of byte }))
    number

unfoldable pub value_from : Number → List ℕ → Number
value_from number [] = number
value_from number (byte ∷ bytes) = value_from (with_digit number byte) bytes

-- why a cell is no number: 35 nothing stands there, 36 "whole ticks" (12.5 and 2,5), 37 a minus sign before a digit, 30 anything else
unfoldable pub why_not : List ℕ → ℕ
why_not cell =
    cond (eqb (length cell) 0) 35
    (cond (is_digit (get_or cell 0 0) && are_digits true cell) 36
    (cond (eqb (get_or cell 0 0) 45 && is_digit (get_or cell 1 0)) 37 30))

-- the number that the content of a cell spells
unfoldable pub spelled : List ℕ → Number
spelled cell = cond (not (eqb (length cell) 0) && are_digits false cell) (value_from no_number cell) (not_number (why_not cell))

-- `number_of`: a cell as a number
unfoldable pub number_of : List ℕ → Number
number_of cell = cond (eqb (quotes_refusal cell) 0) (spelled (content_of cell)) (not_number 42)
