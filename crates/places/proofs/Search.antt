-- The first number that passes a test: where it is, and that there is none. Assumes nothing.
use Prim.Native.Nat.{ℕ, zero, suc, ◌+◌, ◌≤◌, ◌<◌}
use mathlib.Core.Path.{◌≡◌, refl, sym, ap, ◌∙◌, subst}
use mathlib.Core.Bool.{Bool, true, false, cond, true≢false}
use mathlib.Core.Logic.{◌⊎◌, ◌↔◌, ⊎_elim}
use native.Mathlib.Nat.{eq-or-lt_of_le, le_of_suc-le-suc}
use native.Mathlib.Numerals.{add-one}
use native.Mathlib.Decide.{dec_le}
use native.Mathlib.Omega.{arith}
use Rattle.places.specs.Search.{first_from}

-- a test fails at each number from the start up to, and not at, the end
abbrev pub Fails : (ℕ → Bool) → ℕ → ℕ → Type 0
Fails test start end = (k : ℕ) → start ≤ k → k < end → test k ≡ false

-- a test that fails so far, and at the next
pub fails_more : (test : ℕ → Bool) (start end : ℕ) → Fails test start end → test end ≡ false → Fails test start (end + 1)
fails_more test start end fails here k low high = ⊎_elim (λ e. ap test e ∙ here) (λ lt. fails k low lt) (eq-or-lt_of_le (le_of_suc-le-suc (subst (λ (n : ℕ). k < n) (add-one end) high)))

-- the first of the numbers tried is where the test first holds
pub first_found : (test : ℕ → Bool) (n start found : ℕ) → start ≤ found → found < start + n → Fails test start found → test found ≡ true → first_from test start n ≡ found
unfolding first_from
first_found test zero start found low high fails holds = absurd (omega arith)
first_found test (suc n) start found low high fails holds = go (first_found test n (suc start) found) (eq-or-lt_of_le low)
  where
    go : (suc start ≤ found → found < suc start + n → Fails test (suc start) found → test found ≡ true → first_from test (suc start) n ≡ found)
        → (start ≡ found) ⊎ (start < found) → cond (test start) start (first_from test (suc start) n) ≡ found
    go later side =
        ⊎_elim (λ e. let here : test start ≡ true = ap test e ∙ holds in rw here e)
        (λ lt. let missed : test start ≡ false = fails start (omega arith) lt in rw missed (later lt (omega arith) (λ k l h. fails k (omega arith) h) holds)) side

-- there is none where it fails at all of them
pub first-none : (test : ℕ → Bool) (n start : ℕ) → Fails test start (start + n) → first_from test start n ≡ 0
unfolding first_from
first-none test zero start fails = refl
first-none test (suc n) start fails = rw (fails start (omega arith) (omega arith)) (first-none test n (suc start) (λ k l h. fails k (omega arith) (omega arith)))

-- what the first of the numbers tried says of the test: it is 0 and the test fails at all of them, or it is where the test first holds
pub data Says (test : ℕ → Bool) (start n : ℕ) : ℕ → Type 0 where
  none : Fails test start (start + n) → Says test start n 0
  found : {k : ℕ} → start ≤ k → k < start + n → Fails test start k → test k ≡ true → Says test start n k

pub first_says : (test : ℕ → Bool) (n start : ℕ) → Says test start n (first_from test start n)
unfolding first_from
first_says test zero start = none (λ k low high. absurd (omega arith))
first_says test (suc n) start = go (test start) refl (first_says test n (suc start))
  where
    extend : {end : ℕ} → test start ≡ false → Fails test (suc start) end → Fails test start end
    extend missed fails k low high = ⊎_elim (λ e. ap test (sym e) ∙ missed) (λ lt. fails k lt high) (eq-or-lt_of_le low)

    later : {r : ℕ} → test start ≡ false → Says test (suc start) n r → Says test start (suc n) r
    later missed (none fails) = none (λ k low high. extend missed fails k low (omega arith))
    later missed (found {k = k} low high fails holds) = found {k = k} (omega arith) (omega arith) (extend missed fails) holds

    go : (b : Bool) → test start ≡ b → Says test (suc start) n (first_from test (suc start) n) → Says test start (suc n) (cond b start (first_from test (suc start) n))
    go true e s = found {k = start} (omega arith) (omega arith) (λ k low high. absurd (omega arith)) e
    go false e s = later e s

-- where the test holds at some number of those tried, the first is no later and the test holds there
pub first_some : (test : ℕ → Bool) (n start x : ℕ) → start ≤ x → x < start + n → test x ≡ true
    → (start ≤ first_from test start n) × (first_from test start n ≤ x) × (test (first_from test start n) ≡ true) × Fails test start (first_from test start n)
first_some test n start x low high here = go (first_says test n start)
  where
    go : {r : ℕ} → Says test start n r → (start ≤ r) × (r ≤ x) × (test r ≡ true) × Fails test start r
    go (none fails) = absurd (true≢false (sym here ∙ fails x low high))
    go (found {k = k} from under fails holds) = (from, early (dec_le k x), holds, fails)
      where
        early : Dec (k ≤ x) → k ≤ x
        early (yes h) = h
        early (no h) = absurd (true≢false (sym here ∙ fails x low (omega arith)))

-- from 1 on, the first is a number exactly if the test holds there and at none before
pub first-exactly : (test : ℕ → Bool) (n r : ℕ) → 1 ≤ r → (first_from test 1 n ≡ r) ↔ ((r ≤ n) × (test r ≡ true) × Fails test 1 r)
first-exactly test n r some = (λ e. go (first_says test n 1) e, λ h. first_found test n 1 r some (omega arith) h.2 h.1)
  where
    go : {k : ℕ} → Says test 1 n k → k ≡ r → (r ≤ n) × (test r ≡ true) × Fails test 1 r
    go (none fails) e = absurd (omega arith)
    go (found low high fails holds) e = (omega arith, subst (λ (k : ℕ). test k ≡ true) e holds, subst (Fails test 1) e fails)

-- and there is none exactly if it fails at all of them
pub none-exactly : (test : ℕ → Bool) (n : ℕ) → (first_from test 1 n ≡ 0) ↔ ((k : ℕ) → 1 ≤ k → k ≤ n → test k ≡ false)
none-exactly test n = (λ e. go (first_says test n 1) e, λ h. first-none test n 1 (λ k low high. h k low (omega arith)))
  where
    go : {k : ℕ} → Says test 1 n k → k ≡ 0 → (k : ℕ) → 1 ≤ k → k ≤ n → test k ≡ false
    go (none fails) e k low high = fails k low (omega arith)
    go (found low high fails holds) e k from to = absurd (omega arith)
