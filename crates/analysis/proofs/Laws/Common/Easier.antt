-- What is asked less of is done no later. Assumes nothing.
use Prim.Native.Nat.{ℕ, ◌≤◌}
use native.Mathlib.Decide.{dec_le}
use native.Mathlib.Omega.{arith}
use Rattle.analysis.specs.Common.Search.{least_within}
use Rattle.analysis.proofs.Laws.Common.Climbing.{Least, least-says}

-- one time is no later than another: where that is a time, so is this, and it is no larger
abbrev pub NoLater : ℕ → ℕ → Type 0
NoLater a b = 1 ≤ b → (1 ≤ a) × (a ≤ b)

-- of two questions, the one that asks no more of any length has the earlier answer
pub least-easier : (f g : ℕ → ℕ) (limit : ℕ) → ((L : ℕ) → 1 ≤ L → f L ≤ g L) → NoLater (least_within f 1 limit) (least_within g 1 limit)
least-easier f g limit less some = go (least-says g 1 limit) (least-says f 1 limit) some
  where
    go : {a b : ℕ} → Least g 1 limit b → Least f 1 limit a → 1 ≤ b → (1 ≤ a) × (a ≤ b)
    go (Least.none short) side there = absurd (omega arith)
    go (Least.least {L = L} low high fits short) (Least.none late) there = absurd (omega (arith, late L low (omega arith), less L low))
    go (Least.least {L = L} low high fits short) (Least.least {L = K} first last holds before) there = (first, split (dec_le K L))
      where
        split : Dec (K ≤ L) → K ≤ L
        split (yes h) = h
        split (no h) = absurd (omega (arith, before L low (omega arith), less L low))
