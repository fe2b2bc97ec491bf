-- A list filled from its start: its length, what stands below the count and what past it. Assumes nothing.
use Prim.Native.Nat.{ℕ, zero, suc, ◌≤◌, ◌<◌}
use mathlib.Core.Path.{◌≡◌, refl, ◌∙◌}
use mathlib.Core.List.{List, [], ◌∷◌}
use mathlib.Core.Logic.{◌⊎◌, ⊎_elim}
use native.Mathlib.Nat.{eq-or-lt_of_le, le_of_suc-le-suc, not-suc-le-zero}
use native.Mathlib.Omega.{arith}
use lib.ListN.{length, get_or, set, replicate, length-set}
use lib.Seq.{get_or-set_same, get_or-set_other}
use Rattle.places.specs.Places.{filled_below}

module _ {A : Type 0} (value : ℕ → A) where
  -- it keeps its length
  pub length-filled : (n : ℕ) (room : List A) → length (filled_below value n room) ≡ length room
  unfolding filled_below
  length-filled zero room = refl
  length-filled (suc n) room = length-set (filled_below value n room) n (value n) ∙ length-filled n room

  -- it holds each place's value below n
  pub filled_at : (n : ℕ) (room : List A) (d : A) → n ≤ length room → (k : ℕ) → k < n → get_or (filled_below value n room) k d ≡ value k
  unfolding filled_below
  filled_at zero room d fits k h = absurd (not-suc-le-zero h)
  filled_at (suc n) room d fits k h = go (filled_at n room d (omega arith) k) (eq-or-lt_of_le (le_of_suc-le-suc h))
    where
      go : (k < n → get_or (filled_below value n room) k d ≡ value k) → (k ≡ n) ⊎ (k < n) → get_or (set (filled_below value n room) n (value n)) k d ≡ value k
      go earlier w =
          ⊎_elim (λ e. rw e (get_or-set_same (filled_below value n room) n (value n) d (omega (arith, length-filled n room))))
          (λ lt. get_or-set_other (filled_below value n room) n k (value n) d (λ e. omega arith) ∙ earlier lt) w

  -- and past n it is as it was
  pub filled-past : (n : ℕ) (room : List A) (d : A) (k : ℕ) → n ≤ k → get_or (filled_below value n room) k d ≡ get_or room k d
  unfolding filled_below
  filled-past zero room d k high = refl
  filled-past (suc n) room d k high = get_or-set_other (filled_below value n room) n k (value n) d (λ e. omega arith) ∙ filled-past n room d k (omega arith)

-- every place of a list of one value has it, and so has every place past it
pub alike_at : {A : Type 0} (d : A) (n k : ℕ) → get_or (replicate n d) k d ≡ d
alike_at d zero k = refl
alike_at d (suc n) zero = refl
alike_at d (suc n) (suc k) = alike_at d n k

-- a store of what is within a bound leaves a list within it
set-within : (m : ℕ) (l : List ℕ) (i v : ℕ) → v ≤ m → ((k : ℕ) → get_or l k 0 ≤ m) → (k : ℕ) → get_or (set l i v) k 0 ≤ m
set-within m [] i v h each k = each k
set-within m (x ∷ l) zero v h each zero = h
set-within m (x ∷ l) zero v h each (suc k) = each (suc k)
set-within m (x ∷ l) (suc i) v h each zero = each 0
set-within m (x ∷ l) (suc i) v h each (suc k) = set-within m l i v h (λ j. each (suc j)) k

-- so does filling it with what is within the bound
pub filled_within : (m : ℕ) (f : ℕ → ℕ) (room : List ℕ) → ((k : ℕ) → get_or room k 0 ≤ m) → (n : ℕ) → ((k : ℕ) → k < n → f k ≤ m) → (k : ℕ) → get_or (filled_below f n room) k 0 ≤ m
unfolding filled_below
filled_within m f room empty zero each = empty
filled_within m f room empty (suc n) each = set-within m (filled_below f n room) n (f n) (each n (omega arith)) (filled_within m f room empty n (λ k h. each k (omega arith)))
