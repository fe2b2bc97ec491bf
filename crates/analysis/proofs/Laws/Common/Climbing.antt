-- The least number from a start up to a limit: what it is, and how a climb finds it. Assumes nothing.
use Prim.Native.Nat.{ℕ, suc, ◌-◌, ◌≤◌, ◌<◌}
use mathlib.Core.Path.{◌≡◌, sym, subst}
use native.Mathlib.Decide.{dec_lt}
use native.Mathlib.Omega.{arith}
use borrow.Author.Tests.{le-leb, lt-leb, leb-true, leb-false}
use lib.Dec.{leb}
use Rattle.places.proofs.Search.{Fails, first_found, first-none, Says, first_says}
use Rattle.analysis.specs.Common.Search.{least_within}
use Rattle.analysis.specs.Common.Jump.{Missed}

-- two stretches of lengths that ask too much of themselves, one after the other
pub missed-join : (asked : ℕ → ℕ) {start mid end : ℕ} → Missed asked start mid → Missed asked mid end → Missed asked start end
missed-join asked {mid = mid} before after k low high = go (dec_lt k mid)
  where
    go : Dec (k < mid) → k < asked k
    go (yes h) = before k low h
    go (no h) = after k (omega arith) high

module _ (asked : ℕ → ℕ) (start limit : ℕ) where
  -- what a climb knows before its first trial
  pub missed-start : Missed asked start start
  missed-start k low high = absurd (omega arith)

  -- a trial that asks no more is the least
  pub least-found : (trial : ℕ) → start ≤ trial → trial ≤ limit → Missed asked start trial → asked trial ≤ trial → least_within asked start limit ≡ trial
  unfolding least_within
  least-found trial low high short fits =
      first_found (λ L. leb (asked L) L) (suc limit - start) start trial low (omega arith) (λ k l h. lt-leb (asked k) k (short k l h)) (le-leb (asked trial) trial fits)

  -- a trial past the limit leaves none
  pub least-none : (trial : ℕ) → limit < trial → Missed asked start trial → least_within asked start limit ≡ 0
  unfolding least_within
  least-none trial past short = first-none (λ L. leb (asked L) L) (suc limit - start) start (λ k l h. lt-leb (asked k) k (short k l (omega arith)))

-- the same of the least length within a limit
pub data Least (asked : ℕ → ℕ) (start limit : ℕ) : ℕ → Type 0 where
  none : Missed asked start (suc limit) → Least asked start limit 0
  least : {L : ℕ} → start ≤ L → L ≤ limit → asked L ≤ L → Missed asked start L → Least asked start limit L

pub least-says : (asked : ℕ → ℕ) (start limit : ℕ) → Least asked start limit (least_within asked start limit)
unfolding least_within
least-says asked start limit = go (first_says (λ L. leb (asked L) L) (suc limit - start) start)
  where
    short : {end : ℕ} → Fails (λ L. leb (asked L) L) start end → Missed asked start end
    short fails k low high = leb-false (asked k) k (fails k low high)

    go : {r : ℕ} → Says (λ L. leb (asked L) L) start (suc limit - start) r → Least asked start limit r
    go (Says.none fails) = none (λ k low high. short fails k low (omega arith))
    go (Says.found {k = k} low high fails holds) = least low (omega arith) (leb-true (asked k) k holds) (short fails)

-- lengths that are asked the same from the start on have the same least
pub least-agree : (f g : ℕ → ℕ) (start limit : ℕ) → ((L : ℕ) → start ≤ L → f L ≡ g L) → least_within f start limit ≡ least_within g start limit
least-agree f g start limit same = go (least-says f start limit)
  where
    go : {r : ℕ} → Least f start limit r → r ≡ least_within g start limit
    go (none short) = sym (least-none g start limit (suc limit) (omega arith) (λ k low high. subst (λ (n : ℕ). k < n) (same k low) (short k low high)))
    go (least {L = L} low high fits short) = sym (least-found g start limit L low high (λ k l h. subst (λ (n : ℕ). k < n) (same k l) (short k l h)) (subst (λ (n : ℕ). n ≤ L) (same L low) fits))

-- a start past lengths that ask too much of themselves has the same least
pub least-later : (asked : ℕ → ℕ) (start later limit : ℕ) → start ≤ later → Missed asked start later → least_within asked later limit ≡ least_within asked start limit
least-later asked start later limit past short = go (least-says asked later limit)
  where
    go : {r : ℕ} → Least asked later limit r → r ≡ least_within asked start limit
    go (none rest) = sym (least-none asked start limit (suc limit) (omega arith) (missed-join asked short rest))
    go (least {L = L} low high fits rest) = sym (least-found asked start limit L (omega arith) high (missed-join asked short rest) fits)
