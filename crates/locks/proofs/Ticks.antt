-- Counting ticks: those that are free and those that are taken, over any starts and lengths that take no tick twice. Assumes nothing.
use Prim.Native.Nat.{ℕ, zero, suc, ◌+◌, ◌-◌, ◌≤◌, ◌<◌, min}
use mathlib.Core.Path.{◌≡◌, refl, sym, ap, ◌∙◌}
use mathlib.Core.Bool.{Bool, true, false, cond, not}
use native.Mathlib.Decide.{dec_lt, dec_le}
use native.Mathlib.Omega.{arith}
use borrow.Author.Tests.{lt-ltb, le-ltb}
use lib.Dec.{ltb}
use Rattle.places.specs.Places.{some_below, one_if, count_below, sum_below}
use Rattle.places.proofs.Tells.{Tells, holds, fails, shown}
use Rattle.places.proofs.Agree.{sum-agree}
use Rattle.places.proofs.Counted.{count-single}
use Rattle.places.proofs.Summed.{sum-none, sum-counted}
use Rattle.locks.specs.Jobs.{within}
use Rattle.locks.proofs.Given.{within-tells}

-- each tick is free or is not
one-or-other : (b : Bool) → one_if (not b) + one_if b ≡ 1
unfolding one_if
one-or-other true = refl
one-or-other false = refl

-- what a job has run before a tick, and with the tick
run_more : (start long tick : ℕ) → min long (suc tick - start) ≡ min long (tick - start) + one_if (within start long tick)
unfolding one_if
run_more start long tick = go (within-tells start long tick)
  where
    go : {b : Bool} → Tells ((start ≤ tick) × (tick < start + long)) b → min long (suc tick - start) ≡ min long (tick - start) + one_if b
    go (holds h) = omega arith
    go (fails n) = past (dec_le start tick)
      where
        past : Dec (start ≤ tick) → min long (suc tick - start) ≡ min long (tick - start) + 0
        past (yes h) = let over : tick < start + long → ⊥ = λ low. n (h, low) in omega arith
        past (no h) = omega arith

module _ (start long : ℕ → ℕ) (n : ℕ) where
  -- the tick is taken
  abbrev pub taken : ℕ → Bool
  taken tick = some_below (λ k. within (start k) (long k) tick) n

  module _ (apart : (tick j k : ℕ) → j < n → k < n → within (start j) (long j) tick ≡ true → within (start k) (long k) tick ≡ true → j ≡ k) where
    -- the free ticks below m and what the jobs run below m are m together
    pub free-and-taken : (m : ℕ) → count_below (λ tick. not (taken tick)) m + sum_below (λ k. min (long k) (m - start k)) n ≡ m
    unfolding count_below
    free-and-taken zero = omega (arith, sum-none (λ k. min (long k) (0 - start k)) n (λ k below. omega arith))
    free-and-taken (suc m) =
        let more = sum-counted (λ k. min (long k) (m - start k)) (λ k. min (long k) (suc m - start k)) (λ k. within (start k) (long k) m) n (λ k. run_more (start k) (long k) m) in
        let one = count-single (λ k. within (start k) (long k) m) n (apart m) in
        omega (arith, free-and-taken m, more, one, one-or-other (taken m))

    -- at a start nothing is cut: each job before it has run whole, and no other has run
    module _ (j : ℕ) (below : j < n) (some : 0 < long j) where
      uncut : (k : ℕ) → k < n → min (long k) (start j - start k) ≡ cond (ltb (start k) (start j)) (long k) 0
      uncut k low = go (dec_lt (start k) (start j))
        where
          go : Dec (start k < start j) → min (long k) (start j - start k) ≡ cond (ltb (start k) (start j)) (long k) 0
          go (no h) = rw (le-ltb (start k) (start j) (omega arith)) (omega arith)
          go (yes h) = rw (lt-ltb (start k) (start j) h) (done (dec_lt (start j) (start k + long k)))
            where
              done : Dec (start j < start k + long k) → min (long k) (start j - start k) ≡ long k
              done (yes over) = absurd (omega (arith, ap start (apart (start j) j k below low (covered j (omega arith) (omega arith)) (covered k (omega arith) over))))
                where
                  covered : (i : ℕ) → start i ≤ start j → start j < start i + long i → within (start i) (long i) (start j) ≡ true
                  covered i from up = shown (within-tells (start i) (long i) (start j)) (from, up)
              done (no over) = omega arith

      -- so the free ticks before a start are those before it less the lengths of the jobs that start before it
      pub free-before : count_below (λ tick. not (taken tick)) (start j) + sum_below (λ k. cond (ltb (start k) (start j)) (long k) 0) n ≡ start j
      free-before = ap (λ (r : ℕ). count_below (λ tick. not (taken tick)) (start j) + r) (sym (sum-agree n uncut)) ∙ free-and-taken (start j)
