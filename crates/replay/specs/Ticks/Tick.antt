-- "A log has two bytes per tick": what they say. Slot k stands for priority k + 1, here and in everything that follows.
use Rattle.std.specs.Prelude.{ℕ, ◌/◌, ◌%◌, ◌^◌, Bool, not, ◌==◌, nat_le}

-- "releases, one bit per priority with priority 8 as the most significant bit": the bit of a slot
unfoldable pub is_released : ℕ → ℕ → Bool
is_released releases slot = releases / 2 ^ slot % 2 == 1

-- "a release bit above n": some bit from slot n on
unfoldable pub is_above : ℕ → ℕ → Bool
is_above releases n = not (releases / 2 ^ n == 0)

-- "then the fault bit, most significant"
unfoldable pub is_marked : ℕ → Bool
is_marked faults = nat_le 128 faults

-- "seven zeros": whether one of these seven bits is set
unfoldable pub has_other : ℕ → Bool
has_other faults = not (faults % 128 == 0)
