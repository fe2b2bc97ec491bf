-- Functions of the place that agree below a count are the same to whatever is said over the places there. Assumes nothing.
use Prim.Native.Nat.{ℕ, zero, suc, ◌+◌, ◌<◌, max}
use mathlib.Core.Path.{◌≡◌, refl, ap₂}
use mathlib.Core.Bool.{Bool, ◌||◌}
use mathlib.Core.List.{List, ◌++◌}
use native.Mathlib.Omega.{arith}
use lib.ListN.{set}
use Rattle.places.specs.Places.{some_below, one_if, count_below, sum_below, most_below, joined_below, filled_below}
use Rattle.places.specs.Refusals.{or_else, first_below}

-- two functions of the place agree below n
abbrev pub Agree : {A : Type 0} → ℕ → (ℕ → A) → (ℕ → A) → Type 0
Agree n f g = (k : ℕ) → k < n → f k ≡ g k

module _ {A : Type 0} {f g : ℕ → A} where
  -- and so below the next smaller n
  less : (n : ℕ) → Agree (suc n) f g → Agree n f g
  less n same k h = same k (omega arith)

pub some-agree : {f g : ℕ → Bool} (n : ℕ) → Agree n f g → some_below f n ≡ some_below g n
unfolding some_below
some-agree zero same = refl
some-agree (suc n) same = ap₂ ◌||◌ (some-agree n (less n same)) (same n (omega arith))

pub count-agree : {f g : ℕ → Bool} (n : ℕ) → Agree n f g → count_below f n ≡ count_below g n
unfolding count_below
count-agree zero same = refl
count-agree (suc n) same = ap₂ (λ (a : ℕ) (b : Bool). a + one_if b) (count-agree n (less n same)) (same n (omega arith))

pub sum-agree : {f g : ℕ → ℕ} (n : ℕ) → Agree n f g → sum_below f n ≡ sum_below g n
unfolding sum_below
sum-agree zero same = refl
sum-agree (suc n) same = ap₂ ◌+◌ (sum-agree n (less n same)) (same n (omega arith))

pub most-agree : {f g : ℕ → ℕ} (n : ℕ) → Agree n f g → most_below f n ≡ most_below g n
unfolding most_below
most-agree zero same = refl
most-agree (suc n) same = ap₂ max (most-agree n (less n same)) (same n (omega arith))

pub joined-agree : {A : Type 0} {f g : ℕ → List A} (n : ℕ) → Agree n f g → joined_below f n ≡ joined_below g n
unfolding joined_below
joined-agree zero same = refl
joined-agree (suc n) same = ap₂ ◌++◌ (joined-agree n (less n same)) (same n (omega arith))

pub filled-agree : {A : Type 0} {f g : ℕ → A} (n : ℕ) (room : List A) → Agree n f g → filled_below f n room ≡ filled_below g n room
unfolding filled_below
filled-agree zero room same = refl
filled-agree {A} (suc n) room same = ap₂ (λ (l : List A) (x : A). set l n x) (filled-agree n room (less n same)) (same n (omega arith))

pub first-agree : {f g : ℕ → ℕ} (n : ℕ) → Agree n f g → first_below f n ≡ first_below g n
unfolding first_below
first-agree zero same = refl
first-agree (suc n) same = ap₂ or_else (first-agree n (less n same)) (same n (omega arith))
