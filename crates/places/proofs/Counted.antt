-- At how many places below a count a test holds: at none, at one, at so many, and place by place. Assumes nothing.
use Prim.Native.Nat.{ℕ, zero, suc, ◌+◌, ◌≤◌, ◌<◌}
use mathlib.Core.Path.{◌≡◌, refl, ap, ◌∙◌}
use mathlib.Core.Bool.{Bool, true, false, cond, ◌||◌}
use mathlib.Core.Logic.{◌⊎◌, ⊎_elim}
use native.Mathlib.Nat.{not-suc-le-zero, eq-or-lt_of_le, le_of_suc-le-suc}
use native.Mathlib.Decide.{dec_le}
use native.Mathlib.Omega.{arith}
use Rattle.places.specs.Places.{some_below, one_if, count_below}
use Rattle.places.proofs.Some.{some-where}

pub one_at_most : (b : Bool) → one_if b ≤ 1
unfolding one_if
one_at_most true = omega arith
one_at_most false = omega arith

-- no more places than there are
pub count-at-most : (test : ℕ → Bool) (n : ℕ) → count_below test n ≤ n
unfolding count_below
count-at-most test zero = omega arith
count-at-most test (suc n) = omega (arith, count-at-most test n, one_at_most (test n))

pub count_none : (test : ℕ → Bool) (n : ℕ) → ((k : ℕ) → k < n → test k ≡ false) → count_below test n ≡ 0
unfolding count_below one_if
count_none test zero none = refl
count_none test (suc n) none = simp (count_none test n (λ k below. none k (omega arith)), none n (omega arith))

pub count-zero : (test : ℕ → Bool) (n : ℕ) → count_below test n ≡ 0 → (k : ℕ) → k < n → test k ≡ false
unfolding count_below one_if
count-zero test zero none k below = absurd (not-suc-le-zero below)
count-zero test (suc n) none k below = ⊎_elim (λ same. ap test same ∙ go (test n) none) (λ low. count-zero test n (omega arith) k low) (eq-or-lt_of_le (le_of_suc-le-suc below))
  where
    go : (b : Bool) → count_below test n + cond b 1 0 ≡ 0 → b ≡ false
    go true e = absurd (omega arith)
    go false e = refl

-- two pairs of tests that count alike at each place count alike together
pub count-pairs : (f g h i : ℕ → Bool) (n : ℕ) → ((k : ℕ) → k < n → one_if (f k) + one_if (g k) ≡ one_if (h k) + one_if (i k)) → count_below f n + count_below g n ≡ count_below h n + count_below i n
unfolding count_below
count-pairs f g h i zero each = refl
count-pairs f g h i (suc n) each = omega (arith, count-pairs f g h i n (λ k below. each k (omega arith)), each n (omega arith))

-- one place alone
pub count-one : (test : ℕ → Bool) (j n : ℕ) → j < n → ((k : ℕ) → k < n → (k ≡ j → ⊥) → test k ≡ false) → count_below test n ≡ one_if (test j)
unfolding count_below one_if
count-one test j zero below none = absurd (not-suc-le-zero below)
count-one test j (suc n) below none = go (count-one test j n) (eq-or-lt_of_le (le_of_suc-le-suc below))
  where
    go : (j < n → ((k : ℕ) → k < n → (k ≡ j → ⊥) → test k ≡ false) → count_below test n ≡ one_if (test j)) → (j ≡ n) ⊎ (j < n) → count_below test n + one_if (test n) ≡ one_if (test j)
    go rest w =
        ⊎_elim (λ same. omega (arith, count_none test n (λ k low. none k (omega arith) (λ e. omega arith)), ap (λ (k : ℕ). one_if (test k)) same))
        (λ low. omega (arith, rest low (λ k under other. none k (omega arith) other), no_one (none n (omega arith) (λ e. omega arith)))) w
      where
        no_one : {b : Bool} → b ≡ false → one_if b ≡ 0
        no_one e = ap one_if e

-- where no two places pass a test it counts 1 or 0: whether some place passes it
pub count-single : (test : ℕ → Bool) (n : ℕ) → ((j k : ℕ) → j < n → k < n → test j ≡ true → test k ≡ true → j ≡ k) → count_below test n ≡ one_if (some_below test n)
unfolding count_below some_below one_if
count-single test zero single = refl
count-single test (suc n) single =
    ap (λ (a : ℕ). a + one_if (test n)) (count-single test n (λ j k low high. single j k (omega arith) (omega arith)))
    ∙ go (some_below test n) (test n) (λ some here. let w = some-where test n some in omega (arith, w.1, single w.0 n (omega (arith, w.1)) (omega arith) w.2 here))
  where
    go : (a b : Bool) → (a ≡ true → b ≡ true → ⊥) → one_if a + one_if b ≡ one_if (a || b)
    go true true both = absurd (both refl refl)
    go true false both = refl
    go false true both = refl
    go false false both = refl

-- places are counted one by one, so every number up to a count is reached
pub count-reaches : (test : ℕ → Bool) (n target : ℕ) → target ≤ count_below test n → (m : ℕ) × (m ≤ n) × (count_below test m ≡ target)
unfolding count_below
count-reaches test zero target low = (0, omega arith, omega arith)
count-reaches test (suc n) target low = go (dec_le target (count_below test n)) (count-reaches test n target)
  where
    go : Dec (target ≤ count_below test n) → (target ≤ count_below test n → (m : ℕ) × (m ≤ n) × (count_below test m ≡ target)) → (m : ℕ) × (m ≤ suc n) × (count_below test m ≡ target)
    go (yes h) rest =
        let w = rest h in
        (w.0, omega (arith, w.1), w.2)
    go (no h) rest = (suc n, omega arith, omega (arith, low, one_at_most (test n)))
