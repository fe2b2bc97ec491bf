-- A number in decimal, as bytes, and one with a sign.
use Rattle.std.specs.Prelude.{ℕ, zero, suc, ◌+◌, ◌-◌, ◌*◌, ◌/◌, ◌%◌, cond, List, [], ◌∷◌, ◌++◌, ltb, ℤ, pos, negsuc}

-- the byte of a digit: 48 is that of 0
abbrev pub digit : ℕ → ℕ
digit d = 48 + d

-- the last digits of a number, at most so many
unfoldable pub decimal_within : ℕ → ℕ → List ℕ
decimal_within zero n = []
decimal_within (suc most) n = cond (ltb n 10) (digit n ∷ []) (decimal_within most (n / 10) ++ (digit (n % 10) ∷ []))

-- the digits of a number n, the most significant first; there are never more than n + 1 of them
unfoldable pub decimal : ℕ → List ℕ
decimal n = decimal_within (suc n) n

-- a number with a sign: 45 is the byte of `-`
unfoldable pub signed : ℤ → List ℕ
signed (pos n) = decimal n
signed (negsuc n) = 45 ∷ decimal (suc n)

-- the number that digits spell after those that spell `before`
unfoldable pub value_after : ℕ → List ℕ → ℕ
value_after before [] = before
value_after before (d ∷ ds) = value_after (before * 10 + (d - 48)) ds

-- the number that digits spell
unfoldable pub value_of : List ℕ → ℕ
value_of ds = value_after 0 ds
