-- Sums over the places below a count, for every count: that rise together, that differ at one place, of nothing, of a part. Assumes nothing.
use Prim.Native.Nat.{ℕ, zero, suc, ◌+◌, ◌-◌, ◌≤◌, ◌<◌}
use mathlib.Core.Path.{◌≡◌, refl, sym, ap, ap₂, ◌∙◌}
use mathlib.Core.Bool.{Bool}
use mathlib.Core.Logic.{⊎_elim}
use native.Mathlib.Nat.{le_refl, add-le-add, not-suc-le-zero, eq-or-lt_of_le, le_of_suc-le-suc}
use native.Mathlib.Decide.{dec_lt, dec_le}
use native.Mathlib.Omega.{arith}
use Rattle.places.specs.Places.{one_if, count_below, sum_below}
use Rattle.places.proofs.Agree.{sum-agree}
use Rattle.places.proofs.Onto.{Rising}

pub sum-rises : {f g : ℕ → ℕ} (n : ℕ) → ((k : ℕ) → k < n → f k ≤ g k) → sum_below f n ≤ sum_below g n
unfolding sum_below
sum-rises zero each = le_refl 0
sum-rises (suc n) each = add-le-add (sum-rises n (λ k h. each k (omega arith))) (each n (omega arith))

-- the sum of the sums
pub sum-plus : (f g : ℕ → ℕ) (n : ℕ) → sum_below (λ k. f k + g k) n ≡ sum_below f n + sum_below g n
unfolding sum_below
sum-plus f g zero = refl
sum-plus f g (suc n) = omega (arith, sum-plus f g n)

-- the sum of the differences is the difference of the sums
pub sum_less : {f g : ℕ → ℕ} (n : ℕ) → ((k : ℕ) → k < n → g k ≤ f k) → sum_below (λ k. f k - g k) n ≡ sum_below f n - sum_below g n
unfolding sum_below
sum_less zero each = refl
sum_less {f} {g} (suc n) each =
    omega (arith, sum_less {f = f} {g = g} n (λ k h. each k (omega arith)), sum-rises {f = g} {g = f} n (λ k h. each k (omega arith)), each n (omega arith))

-- a sum of nothing
pub sum-none : (f : ℕ → ℕ) (n : ℕ) → ((k : ℕ) → k < n → f k ≡ 0) → sum_below f n ≡ 0
unfolding sum_below
sum-none f zero none = refl
sum-none f (suc n) none = omega (arith, sum-none f n (λ k below. none k (omega arith)), none n (omega arith))

-- a sum that is not 0 has a place that is not
pub sum-some : (f : ℕ → ℕ) (n : ℕ) → 1 ≤ sum_below f n → (k : ℕ) × (k < n) × (1 ≤ f k)
unfolding sum_below
sum-some f zero some = absurd (omega arith)
sum-some f (suc n) some = go (dec_le 1 (f n)) (sum-some f n)
  where
    go : Dec (1 ≤ f n) → (1 ≤ sum_below f n → (k : ℕ) × (k < n) × (1 ≤ f k)) → (k : ℕ) × (k < suc n) × (1 ≤ f k)
    go (yes here) rest = (n, omega arith, here)
    go (no none) rest = let w = rest (omega arith) in (w.0, omega (arith, w.1), w.2)

-- what one place has is within the sum
pub sum-part : (f : ℕ → ℕ) (n k : ℕ) → k < n → f k ≤ sum_below f n
unfolding sum_below
sum-part f zero k below = absurd (not-suc-le-zero below)
sum-part f (suc n) k below = ⊎_elim (λ e. omega (arith, ap f e)) (λ lt. omega (arith, sum-part f n k lt)) (eq-or-lt_of_le (le_of_suc-le-suc below))

-- the places before one bring nothing
pub sum-from : (f g : ℕ → ℕ) (a n : ℕ) → ((k : ℕ) → k < a → k < n → f k ≡ 0) → ((k : ℕ) → a ≤ k → k < n → f k ≡ g k) → sum_below f n ≡ sum_below (λ k. g (a + k)) (n - a)
unfolding sum_below
sum-from f g a zero before after =
    let none : zero - a ≡ 0 = omega arith in
    rw none refl
sum-from f g a (suc n) before after = go (dec_lt n a) (sum-from f g a n (λ k l h. before k l (omega arith)) (λ k l h. after k l (omega arith)))
  where
    go : Dec (n < a) → sum_below f n ≡ sum_below (λ k. g (a + k)) (n - a) → sum_below f n + f n ≡ sum_below (λ k. g (a + k)) (suc n - a)
    go (yes low) rest =
        let none : suc n - a ≡ n - a = omega arith in
        rw none (omega (arith, rest, before n low (omega arith)))
    go (no high) rest =
        let one : suc n - a ≡ suc (n - a) = omega arith in
        let here : a + (n - a) ≡ n = omega arith in
        rw one (ap₂ ◌+◌ rest (after n (omega arith) (omega arith) ∙ ap g (sym here)))

-- two pairs of values, of which one pair is at most the other at each place
pub sum-pairs : (f g h j : ℕ → ℕ) (n : ℕ) → ((k : ℕ) → k < n → f k + g k ≤ h k + j k) → sum_below f n + sum_below g n ≤ sum_below h n + sum_below j n
unfolding sum_below
sum-pairs f g h j zero each = omega arith
sum-pairs f g h j (suc n) each = omega (arith, sum-pairs f g h j n (λ k below. each k (omega arith)), each n (omega arith))

-- values that differ at one place only
pub sum_one : (f g : ℕ → ℕ) (a b j n : ℕ) → j < n → ((k : ℕ) → k < n → (k ≡ j → ⊥) → f k ≡ g k) → f j + a ≤ g j + b → sum_below f n + a ≤ sum_below g n + b
unfolding sum_below
sum_one f g a b j zero below others here = absurd (not-suc-le-zero below)
sum_one f g a b j (suc n) below others here = ⊎_elim last (before (sum_one f g a b j n)) (eq-or-lt_of_le (le_of_suc-le-suc below))
  where
    last : j ≡ n → sum_below f n + f n + a ≤ sum_below g n + g n + b
    last same =
        let here' : f n + a ≤ g n + b = rw same at here in
        omega (arith, sum-agree {f = f} {g = g} n (λ k low. others k (omega arith) (λ e. omega arith)))

    before : (j < n → ((k : ℕ) → k < n → (k ≡ j → ⊥) → f k ≡ g k) → f j + a ≤ g j + b → sum_below f n + a ≤ sum_below g n + b) → j < n → sum_below f n + f n + a ≤ sum_below g n + g n + b
    before rest low = omega (arith, rest low (λ k small other. others k (omega arith) other) here, others n (omega arith) (λ e. omega arith))

-- a sum that grows by one at some places grows by as many as they are
pub sum-counted : (f g : ℕ → ℕ) (test : ℕ → Bool) (n : ℕ) → ((k : ℕ) → g k ≡ f k + one_if (test k)) → sum_below g n ≡ sum_below f n + count_below test n
unfolding sum_below count_below
sum-counted f g test zero each = refl
sum-counted f g test (suc n) each = omega (arith, sum-counted f g test n each, each n)

-- a sum over more places is no smaller
pub sum-grows : (f : ℕ → ℕ) (m n : ℕ) → m ≤ n → sum_below f m ≤ sum_below f n
unfolding sum_below
sum-grows f m zero h =
    let none : m ≡ 0 = omega arith in
    rw none (le_refl 0)
sum-grows f m (suc n) h = ⊎_elim (λ e. rw e (le_refl (sum_below f (suc n)))) (λ lt. omega (arith, sum-grows f m n (le_of_suc-le-suc lt))) (eq-or-lt_of_le h)

-- what is summed along places that rise is within the whole sum
pub sum-along : (g f place : ℕ → ℕ) (m n : ℕ) → Rising m n place → ((j : ℕ) → j < m → g j ≤ f (place j)) → sum_below g m ≤ sum_below f n
unfolding sum_below
sum-along g f place zero n r each = omega arith
sum-along g f place (suc m) n r each =
    let before = sum-along g f place m (place m) (record { within = λ j h. r.rises j m h (omega arith); rises = λ i j lt h. r.rises i j lt (omega arith) }) (λ j h. each j (omega arith)) in
    omega (arith, before, each m (omega arith), sum-grows f (suc (place m)) n (r.within m (omega arith)))
