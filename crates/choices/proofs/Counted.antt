-- Places with n different priorities from 1 to n have n! choices: the product of the priorities counts them.
-- Assumes nothing.
use Prim.Native.Nat.{ℕ, zero, suc, ◌+◌, ◌-◌, ◌*◌, ◌≤◌, ◌<◌, suc-le-suc}
use mathlib.Core.Path.{◌≡◌, refl, sym, ap, ap₂, subst, ◌∙◌}
use mathlib.Core.Bool.{Bool, true, false, cond, or-false}
use mathlib.Core.List.{List, [], ◌∷◌}
use native.Mathlib.Nat.{zero-add, suc-add, le_refl, le_trans, not-suc-le-zero, le_of_eq, mul_left_comm, zero-mul, one-mul, suc-mul, add_comm}
use native.Mathlib.Decide.{ℕ_discrete, dec_lt}
use native.Mathlib.Omega.{arith}
use borrow.Author.Tests.{eq-eqb, ne_eqb, lt-ltb, le-ltb}
use lib.Dec.{eqb, ltb}
use lib.ListN.{length, get_or, set, replicate, length-append, length-map, get_or-replicate}
use Rattle.places.specs.Places.{some_below, filled_below}
use Rattle.places.proofs.Filled.{length-filled, filled-past}
use Rattle.choices.specs.Choices.{in_row, entries_for, spread, choices_of}
use Rattle.choices.specs.Stepping.{factorial}

-- n! rises with n
factorial-rises : (d n : ℕ) → factorial n ≤ factorial (d + n)
unfolding factorial
factorial-rises zero n = rw zero-add (le_refl (factorial n))
factorial-rises (suc d) n = rw suc-add (le_trans (factorial-rises d n) (omega (arith, suc-mul (d + n) (factorial (d + n)))))

-- so that of up to eight is at most that of eight
pub factorial-few : (n : ℕ) → n ≤ 8 → factorial n ≤ 40320
unfolding factorial
factorial-few n few =
    let eight : 8 - n + n ≡ 8 = omega arith in
    subst (λ (m : ℕ). factorial n ≤ factorial m) eight (factorial-rises (8 - n) n)

-- no number at a place below n is that of an earlier place
abbrev Fresh : (ℕ → ℕ) → ℕ → Type 0
Fresh f n = (k : ℕ) → k < n → some_below (λ earlier. eqb (f earlier) (f k)) k ≡ false

-- numbers taken in one after the other, each by the step `grow`: counted by `λ p. suc` from 0, multiplied by `◌*◌` from 1
module _ {A : Type 0} (grow : ℕ → A → A) (none : A) (f : ℕ → ℕ) where
  -- what the numbers at the places below n make
  grown : ℕ → A
  grown zero = none
  grown (suc n) = grow (f n) (grown n)

  -- the same of those that are at most v
  grown_to : ℕ → ℕ → A
  grown_to v zero = none
  grown_to v (suc n) = cond (ltb v (f n)) (grown_to v n) (grow (f n) (grown_to v n))

  -- where no number is above v, they are all of them
  grown-all : (v n : ℕ) → ((k : ℕ) → k < n → f k ≤ v) → grown_to v n ≡ grown n
  unfolding grown grown_to
  grown-all v zero small = refl
  grown-all v (suc n) small = simp (le-ltb v (f n) (small n (omega arith)), grown-all v n (λ k h. small k (omega arith)))

  -- where no number is 0, none is at most 0
  grown-none : (n : ℕ) → ((k : ℕ) → k < n → 1 ≤ f k) → grown_to 0 n ≡ none
  unfolding grown_to
  grown-none zero some = refl
  grown-none (suc n) some = simp (lt-ltb 0 (f n) (some n (omega arith)), grown-none n (λ k h. some k (omega arith)))

  -- where the order makes no difference: of different numbers, those at most v + 1 are those at most v, and v + 1 where it is there
  grown-more : ((a b : ℕ) (x : A) → grow a (grow b x) ≡ grow b (grow a x)) → (v n : ℕ) → Fresh f n
      → grown_to (suc v) n ≡ cond (some_below (λ k. eqb (f k) (suc v)) n) (grow (suc v) (grown_to v n)) (grown_to v n)
  unfolding grown_to some_below
  grown-more swap v zero fresh = refl
  grown-more swap v (suc n) fresh = go (grown-more swap v n (λ k h. fresh k (omega arith))) (ℕ_discrete (f n) (suc v)) (dec_lt v (f n))
    where
      pull : (b : Bool) → grow (f n) (cond b (grow (suc v) (grown_to v n)) (grown_to v n)) ≡ cond b (grow (suc v) (grow (f n) (grown_to v n))) (grow (f n) (grown_to v n))
      pull true = swap (f n) (suc v) (grown_to v n)
      pull false = refl

      go : grown_to (suc v) n ≡ cond (some_below (λ k. eqb (f k) (suc v)) n) (grow (suc v) (grown_to v n)) (grown_to v n) → Dec (f n ≡ suc v) → Dec (v < f n)
          → grown_to (suc v) (suc n) ≡ cond (some_below (λ k. eqb (f k) (suc v)) (suc n)) (grow (suc v) (grown_to v (suc n))) (grown_to v (suc n))
      go before (yes e) side =
          let new : some_below (λ k. eqb (f k) (suc v)) n ≡ false = rw e at (fresh n (omega arith)) in
          simp (e, le-ltb (suc v) (suc v) (omega arith), lt-ltb v (suc v) (omega arith), eq-eqb (suc v) (suc v) refl, before, new)
      go before (no e) (yes above) = simp (lt-ltb (suc v) (f n) (omega arith), lt-ltb v (f n) above, ne_eqb (f n) (suc v) e, or-false, before)
      go before (no e) (no within) = simp (le-ltb (suc v) (f n) (omega arith), le-ltb v (f n) (omega arith), ne_eqb (f n) (suc v) e, or-false, before) (pull (some_below (λ k. eqb (f k) (suc v)) n))

-- how many numbers are at most v, beside their product: no more than v, and where they are v, the product is v!
abbrev Full : ℕ → ℕ → ℕ → Type 0
Full v number product = (number ≤ v) × (number ≡ v → product ≡ factorial v)

-- the same of v + 1, whether that number is there or not
full-more : (b : Bool) (v number product : ℕ) → Full v number product → Full (suc v) (cond b (suc number) number) (cond b (suc v * product) product)
unfolding factorial
full-more true v number product before = (suc-le-suc before.0, λ e. ap (λ (x : ℕ). suc v * x) (before.1 (omega arith)))
full-more false v number product before = (omega arith, λ e. absurd (omega arith))

-- n places have n numbers
number-all : (f : ℕ → ℕ) (n : ℕ) → grown (λ p. suc) 0 f n ≡ n
unfolding grown
number-all f zero = refl
number-all f (suc n) = ap suc (number-all f n)

-- n numbers from 1 to n, no two equal
module _ (f : ℕ → ℕ) (n : ℕ) (within : (k : ℕ) → k < n → (1 ≤ f k) × (f k ≤ n)) (fresh : Fresh f n) where
  -- different numbers from 1 on: those at most v are no more than v, and where they are v, their product is v!
  full-to : (v : ℕ) → Full v (grown_to (λ p. suc) 0 f v n) (grown_to ◌*◌ 1 f v n)
  unfolding factorial
  full-to zero =
      let some : (k : ℕ) → k < n → 1 ≤ f k = λ k h. (within k h).0 in
      (le_of_eq (grown-none (λ p. suc) 0 f n some), λ e. grown-none ◌*◌ 1 f n some)
  full-to (suc v) = rw (grown-more (λ p. suc) 0 f (λ a b x. refl) v n fresh, grown-more ◌*◌ 1 f mul_left_comm v n fresh) (full-more (some_below (λ k. eqb (f k) (suc v)) n) v _ _ (full-to v))

  -- their product is n!
  product-factorial : grown ◌*◌ 1 f n ≡ factorial n
  product-factorial =
      let small : (k : ℕ) → k < n → f k ≤ n = λ k h. (within k h).1 in
      sym (grown-all ◌*◌ 1 f n n small) ∙ (full-to n).1 (grown-all (λ p. suc) 0 f n n small ∙ number-all f n)

-- each of some entries before each of some rests makes as many lists as the product of their numbers
spread-length : (qs : List ℕ) (rests : List (List ℕ)) → length (spread qs rests) ≡ length qs * length rests
unfolding spread
spread-length [] rests = sym (zero-mul (length rests))
spread-length (q ∷ qs) rests = simp (length-append, length-map, spread-length qs rests, suc-mul) (add_comm _ _)

-- n numbers in a row are n
row-length : (from n : ℕ) → length (in_row from n) ≡ n
unfolding in_row
row-length from zero = refl
row-length from (suc n) = ap suc (row-length (suc from) n)

-- a record with priority p has p entries
entries-length : (p : ℕ) → 1 ≤ p → length (entries_for p) ≡ p
unfolding entries_for
entries-length zero h = absurd (not-suc-le-zero h)
entries-length (suc p) h = row-length 1 (suc p)

-- a place without a record that gets one has as many times the choices as the record has entries
set-count : (ps : List ℕ) (k p : ℕ) → k < length ps → get_or ps k 0 ≡ 0 → length (choices_of (set ps k p)) ≡ length (entries_for p) * length (choices_of ps)
unfolding choices_of entries_for
set-count [] k p h e = absurd (not-suc-le-zero h)
set-count (a ∷ ps) zero p h e = simp (e, spread-length, one-mul)
set-count (a ∷ ps) (suc k) p h e = simp (spread-length, set-count ps k p (omega arith) e) (mul_left_comm _ _ _)

-- eight places of which the first n have a priority have as many choices as the product of the n priorities
filled-count : (f : ℕ → ℕ) (n : ℕ) → n ≤ 8 → ((k : ℕ) → k < n → 1 ≤ f k) → length (choices_of (filled_below f n (replicate 8 0))) ≡ grown ◌*◌ 1 f n
unfolding filled_below grown choices_of spread entries_for
filled-count f zero few some = refl
filled-count f (suc n) few some =
    set-count (filled_below f n (replicate 8 0)) n (f n) (omega (arith, length-filled f n (replicate 8 0))) (filled-past f n (replicate 8 0) 0 n (omega arith) ∙ get_or-replicate 8 n 0 0 few)
    ∙ ap₂ ◌*◌ (entries-length (f n) (some n (omega arith))) (filled-count f n (omega arith) (λ k h. some k (omega arith)))

-- eight places of which the first n have n different priorities from 1 to n have n! choices
pub filled-factorial : (f : ℕ → ℕ) (n : ℕ) → n ≤ 8 → ((k : ℕ) → k < n → (1 ≤ f k) × (f k ≤ n)) → Fresh f n → length (choices_of (filled_below f n (replicate 8 0))) ≡ factorial n
filled-factorial f n few within fresh = filled-count f n few (λ k h. (within k h).0) ∙ product-factorial f n within fresh
