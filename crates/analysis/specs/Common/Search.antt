-- The least number from a start up to a limit. No time and no interval is 0, so 0 stands for "there is none".
use Rattle.std.specs.Prelude.{ℕ, suc, ◌-◌, leb}
use Rattle.places.specs.Search.{first_from}

-- the least L from the start up to the limit such that L is at least what is asked of it
unfoldable pub least_within : (ℕ → ℕ) → ℕ → ℕ → ℕ
least_within asked start limit = first_from (λ L. leb (asked L) L) start (suc limit - start)
