-- Rounding up.
use Rattle.std.specs.Prelude.{ℕ, ◌+◌, ◌-◌, ◌/◌}

-- "up(a, b)" is a divided by b, rounded up.
unfoldable pub up : ℕ → ℕ → ℕ
up a b = (a + (b - 1)) / b
