-- Sets as binary digits: their or, a set of one, the highest by leading zeros, how many by ones, and the digits of a number. For every width. Assumes nothing.
use Rattle.std.proofs.Common.{◌≡◌, ℕ, zero, suc, ◌+◌, ◌-◌, ◌*◌, ◌/◌, ◌%◌, ◌^◌, ◌<◌, ◌≤◌, Bool, true, false, cond, ◌||◌, eqb, ◌⊎◌, sym, refl, ap, ◌∙◌, ap₂, ⊎_elim, le_of_suc-le-suc, not-suc-le-zero, mod-lt, eq-or-lt_of_le, one-mul, pow-suc, zero-mul, add-one, arith}
use native.Mathlib.Nat.{zero-div, mod-one}
use lib.Bits.{bit_or, or_block}
use lib.Count.{ones, count_leading_zeros, ones_cat, leading_unique}
use lib.Pow.{mod-pow-add}
use Rattle.places.specs.Places.{one_if, count_below, highest_below}
use Rattle.places.proofs.Largest.{highest-at-most}
use Rattle.replay.specs.Ticks.Tick.{is_released}
use Rattle.replay.specs.Ticks.Ready.{bits_of}

-- a power of two is twice the one before
pub twice : (n : ℕ) → 2 ^ suc n ≡ 2 ^ n + 2 ^ n
twice n = pow-suc 2 n ∙ omega arith

-- the digit n above the digits below it
digit_lt : (b : Bool) (n r : ℕ) → r < 2 ^ n → one_if b * 2 ^ n + r < 2 ^ suc n
unfolding one_if
digit_lt true n r h = omega (arith, twice n, one-mul (2 ^ n))
digit_lt false n r h = omega (arith, twice n, zero-mul (2 ^ n))

bits_small : (test : ℕ → Bool) (n : ℕ) → bits_of test n < 2 ^ n
unfolding bits_of
bits_small test zero = omega arith
bits_small test (suc n) = digit_lt (test n) n (bits_of test n) (bits_small test n)

or-one : (a b : Bool) → bit_or (one_if a) (one_if b) ≡ one_if (a || b)
unfolding one_if
or-one true true = refl
or-one true false = refl
or-one false true = refl
or-one false false = refl

-- the or of two sets is their union
pub bits-or : (f g : ℕ → Bool) (n : ℕ) → bit_or (bits_of f n) (bits_of g n) ≡ bits_of (λ k. f k || g k) n
unfolding bits_of
bits-or f g zero = refl
bits-or f g (suc n) =
    or_block n (one_if (f n)) (one_if (g n)) (bits_of f n) (bits_of g n) (bits_small f n) (bits_small g n)
    ∙ ap₂ (λ (a r : ℕ). a * 2 ^ n + r) (or-one (f n) (g n)) (bits-or f g n)

-- the empty set
pub bits_none : (test : ℕ → Bool) (n : ℕ) → ((k : ℕ) → k < n → test k ≡ false) → bits_of test n ≡ 0
unfolding bits_of one_if
bits_none test zero none = refl
bits_none test (suc n) none =
    ap₂ (λ (b : Bool) (r : ℕ). cond b 1 0 * 2 ^ n + r) (none n (omega arith)) (bits_none test n (λ k below. none k (omega arith))) ∙ omega (arith, zero-mul (2 ^ n))

-- a set of one
pub bits-single : (test : ℕ → Bool) (j n : ℕ) → j < n → test j ≡ true → ((k : ℕ) → k < n → (k ≡ j → ⊥) → test k ≡ false) → bits_of test n ≡ 2 ^ j
unfolding bits_of one_if
bits-single test j zero below here none = absurd (not-suc-le-zero below)
bits-single test j (suc n) below here none = go (bits-single test j n) (eq-or-lt_of_le (le_of_suc-le-suc below))
  where
    go : (j < n → test j ≡ true → ((k : ℕ) → k < n → (k ≡ j → ⊥) → test k ≡ false) → bits_of test n ≡ 2 ^ j) → (j ≡ n) ⊎ (j < n) → cond (test n) 1 0 * 2 ^ n + bits_of test n ≡ 2 ^ j
    go rest w =
        ⊎_elim (λ e. ap₂ (λ (b : Bool) (r : ℕ). cond b 1 0 * 2 ^ n + r) (ap test (sym e) ∙ here) (bits_none test n (λ k low. none k (omega arith) (λ same. omega arith))) ∙ omega (arith, one-mul (2 ^ n)) ∙ ap (λ (k : ℕ). 2 ^ k) (sym e))
        (λ low. ap₂ (λ (b : Bool) (r : ℕ). cond b 1 0 * 2 ^ n + r) (none n (omega arith) (λ same. omega arith)) (rest low here (λ k under other. none k (omega arith) other)) ∙ omega (arith, zero-mul (2 ^ n))) w

-- the highest of a set is the length of its number in digits
top-length : (test : ℕ → Bool) (n : ℕ) → (bits_of test n < 2 ^ highest_below test n) × (2 ^ highest_below test n ≤ 2 * bits_of test n + 1)
unfolding bits_of highest_below one_if
top-length test zero = omega arith
top-length test (suc n) = go (test n) (top-length test n)
  where
    go : (b : Bool) → (bits_of test n < 2 ^ highest_below test n) × (2 ^ highest_below test n ≤ 2 * bits_of test n + 1)
        → (one_if b * 2 ^ n + bits_of test n < 2 ^ cond b (n + 1) (highest_below test n)) × (2 ^ cond b (n + 1) (highest_below test n) ≤ 2 * (one_if b * 2 ^ n + bits_of test n) + 1)
    go true w = rw add-one (omega (arith, twice n, one-mul (2 ^ n), bits_small test n))
    go false w = omega (arith, zero-mul (2 ^ n))

-- "the highest is found by counting leading zeros"
pub highest-zeros : (test : ℕ → Bool) (n : ℕ) → n - count_leading_zeros n (bits_of test n) ≡ highest_below test n
highest-zeros test n =
    let low = highest-at-most test n in
    let whole : (n - highest_below test n) + highest_below test n ≡ n = omega arith in
    let zeros = leading_unique n (bits_of test n) (n - highest_below test n) (highest_below test n) whole (top-length test n).0 (top-length test n).1 in
    omega arith

one-ones : (b : Bool) → ones (one_if b) ≡ one_if b
unfolding one_if ones
one-ones true = refl
one-ones false = refl

-- the set digits are as many as the set has members
pub ones-count : (test : ℕ → Bool) (n : ℕ) → ones (bits_of test n) ≡ count_below test n
unfolding bits_of count_below one_if
ones-count test zero = one-ones false
ones-count test (suc n) =
    ones_cat n (one_if (test n)) (bits_of test n) (bits_small test n)
    ∙ ap₂ ◌+◌ (one-ones (test n)) (ones-count test n) ∙ omega arith

digit : (x : ℕ) → x < 2 → one_if (eqb x 1) ≡ x
unfolding one_if
digit zero h = refl
digit (suc zero) h = refl
digit (suc (suc x)) h = absurd (omega arith)

-- a number's digits below n make what it leaves by 2 ^ n
pub bits-digits : (x n : ℕ) → bits_of (is_released x) n ≡ x % 2 ^ n
unfolding bits_of is_released
bits-digits x zero = sym (mod-one x)
bits-digits x (suc n) =
    ap₂ (λ (a r : ℕ). a * 2 ^ n + r) (digit (x / 2 ^ n % 2) (mod-lt (x / 2 ^ n) (omega arith))) (bits-digits x n)
    ∙ sym (mod-pow-add x 1 n) ∙ ap (λ (k : ℕ). x % 2 ^ k) (omega arith)

-- no bit of 0 is set
pub none-released : (releases : ℕ) → releases ≡ 0 → (slot : ℕ) → is_released releases slot ≡ false
unfolding is_released
none-released releases e slot = rw (e, zero-div (2 ^ slot)) refl
