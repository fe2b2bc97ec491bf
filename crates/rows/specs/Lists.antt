-- Places, numbers and figures in a list of bytes.
use Rattle.std.specs.Prelude.{◌≡◌, ℕ, zero, suc, ◌+◌, ◌*◌, ◌%◌, ◌^◌, ◌<◌, Bool, cond, ◌||◌, List, [], ◌∷◌, length, take, drop, ◌==◌, nat_lt}
use Rattle.std.specs.Borrow.{Bor}
use Rattle.rows.specs.declared.list.Digits.{Digits}

-- how many bytes stand up to the first such byte, itself among them; all of them where there is none
unfoldable pub through : ℕ → List ℕ → ℕ
through mark [] = 0
through mark (x ∷ rest) = suc (cond (x == mark) 0 (through mark rest))

-- the place after the first such byte from a place on, or the list's end
unfoldable pub after : List ℕ → ℕ → ℕ → ℕ
after list start mark = start + through mark (drop start list)

-- the place of the row after the one at a place: after the first newline, and so past the place, if that is in the list
pub record Next (list : List ℕ) (start next : ℕ) : Type 0 where
  pub exact : next ≡ after list start 10
  pub past : start < length list → start < next

-- the first bytes of a list, as a part of the lent list: its block and offset, and its bytes
pub record First (list : Bor (List ℕ)) (length : ℕ) (part : Bor (List ℕ)) : Type 0 where
  pub block : part.ref_ptr.0 ≡ list.ref_ptr.0
  pub offset : part.ref_ptr.1 ≡ list.ref_ptr.1
  pub content : part.now ≡ take length list.now

-- whether a byte is no decimal digit
unfoldable pub ends : ℕ → Bool
ends x = nat_lt x 48 || nat_lt 57 x

-- a number with one digit more, as far as 64 bits hold it
unfoldable pub grown : ℕ → ℕ → ℕ
grown value digit = (value % 1844674407370955162 * 10 + digit % 16) % 2 ^ 64

-- a number with the digits at the start of a list after it
unfoldable pub number_from : ℕ → List ℕ → ℕ
number_from value [] = value
number_from value (x ∷ rest) = cond (ends x) value (number_from (grown value x) rest)

-- how many digits stand at the start of a list
unfoldable pub digits_of : List ℕ → ℕ
digits_of [] = 0
digits_of (x ∷ rest) = cond (ends x) 0 (suc (digits_of rest))

-- the number whose digits stand at a place, beside the place after them
unfoldable pub number_at : List ℕ → ℕ → Digits
number_at list at = record { value = number_from 0 (drop at list); «end» = at + digits_of (drop at list) }

-- the place after so many spaces
unfoldable pub field_at : List ℕ → ℕ → ℕ → ℕ
field_at list start zero = start
field_at list start (suc k) = after list (field_at list start k) 32

-- a figure of the row at a place: the number after so many spaces, 0 where they are not all in front of the row's first bar
unfoldable pub figure_of : List ℕ → ℕ → ℕ → ℕ
figure_of list start which = cond (nat_lt (field_at list start which) (after list start 124)) (number_at list (field_at list start which)).value 0
