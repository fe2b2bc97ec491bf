-- Sets as bits: "a set of eight resources", resource r as bit r, and "its sporadic users as one bit per priority", priority p as bit p - 1.
use Rattle.std.specs.Prelude.{ℕ, ◌-◌, ◌/◌, ◌%◌, ◌^◌, Bool, not, ◌&&◌, eqb, leb}
use Rattle.places.specs.Places.{highest_below}

-- whether the bit at a place is set
unfoldable pub has_bit : ℕ → ℕ → Bool
has_bit bits place = eqb (bits / 2 ^ place % 2) 1

-- whether the task of a priority is among the users; priorities are 1 to 8
unfoldable pub is_user : ℕ → ℕ → Bool
is_user users priority = not (eqb priority 0) && (leb priority 8 && has_bit users (priority - 1))

-- "the highest priority among its users", 0 where it has none
unfoldable pub highest_user : ℕ → ℕ
highest_user users = highest_below (has_bit users) 8
