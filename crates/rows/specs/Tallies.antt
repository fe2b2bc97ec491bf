-- The tally of rows.
use Rattle.std.specs.Prelude.{ℕ, ◌+◌, Bool, cond, nat_lt}
use Rattle.rows.specs.declared.Tally.{Tally}

-- before the first row
abbrev pub no_rows : Tally
no_rows = record { rows = 0; differ = 0 }

-- one more, up to the largest number that 64 bits hold
unfoldable pub more : ℕ → ℕ
more count = cond (nat_lt count 18446744073709551615) (count + 1) count

-- a tally with one row more, which is or is not as expected
unfoldable pub counted : Tally → Bool → Tally
counted tally is_expected = record { rows = more tally.rows; differ = cond is_expected tally.differ (more tally.differ) }
