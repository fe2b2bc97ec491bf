-- The first number from a start on that passes a test. What is looked for is never 0, so 0 stands for "there is none".
use Rattle.std.specs.Prelude.{ℕ, zero, suc, Bool, cond}

-- the first of the n numbers from the start on that passes the test
unfoldable pub first_from : (ℕ → Bool) → ℕ → ℕ → ℕ
first_from test start zero = 0
first_from test start (suc n) = let later = first_from test (suc start) n in cond (test start) start later
