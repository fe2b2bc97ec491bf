-- What is said over the places 0, 1, .. below a count: some, how many, the sum, the largest, the least, the highest place, lists one after the other, a list filled from its start.
use Rattle.std.specs.Prelude.{ℕ, zero, suc, ◌+◌, max, min, Bool, false, cond, ◌||◌, List, [], ◌++◌, set}

-- whether the test holds at some place below n
unfoldable pub some_below : (ℕ → Bool) → ℕ → Bool
some_below test zero = false
some_below test (suc n) = some_below test n || test n

-- 1 for what is counted, 0 for what is not
unfoldable pub one_if : Bool → ℕ
one_if holds = cond holds 1 0

-- at how many places below n the test holds
unfoldable pub count_below : (ℕ → Bool) → ℕ → ℕ
count_below test zero = 0
count_below test (suc n) = count_below test n + one_if (test n)

-- the sum of what each place below n has
unfoldable pub sum_below : (ℕ → ℕ) → ℕ → ℕ
sum_below f zero = 0
sum_below f (suc n) = sum_below f n + f n

-- the largest, 0 where there is none
unfoldable pub most_below : (ℕ → ℕ) → ℕ → ℕ
most_below f zero = 0
most_below f (suc n) = max (most_below f n) (f n)

-- the least of a number and of what those places below n have that count
unfoldable pub least_below : ℕ → (ℕ → Bool) → (ℕ → ℕ) → ℕ → ℕ
least_below none counts f zero = none
least_below none counts f (suc n) = cond (counts n) (min (f n) (least_below none counts f n)) (least_below none counts f n)

-- one more than the highest place below n where the test holds, or 0
unfoldable pub highest_below : (ℕ → Bool) → ℕ → ℕ
highest_below test zero = 0
highest_below test (suc n) = cond (test n) (n + 1) (highest_below test n)

module _ {ℓ} {A : Type ℓ} where
  -- the list of each place below n, one place after the other
  unfoldable pub joined_below : (ℕ → List A) → ℕ → List A
  joined_below lists zero = []
  joined_below lists (suc n) = joined_below lists n ++ lists n

module _ {A : Type 0} where
  -- the list with each place below n filled by the place's value
  unfoldable pub filled_below : (ℕ → A) → ℕ → List A → List A
  filled_below value zero room = room
  filled_below value (suc n) room = set (filled_below value n room) n (value n)
