-- One job over the ticks of one period from a time at which it does not run: it starts once, at its distance, and runs once, uncut. The remainder by the period is met here and nowhere above. Assumes nothing.
use Prim.Native.Nat.{ℕ, ◌+◌, ◌-◌, ◌%◌, ◌≤◌, ◌<◌}
use mathlib.Core.Path.{◌≡◌, sym, ◌∙◌}
use mathlib.Core.Bool.{false, cond}
use mathlib.Core.Logic.{◌⊎◌, ◌↔◌, inl, inr}
use native.Mathlib.Nat.{mod-lt, mod-eq_of_lt, mod-add-mod, mod-eq-sub-mod}
use native.Mathlib.Decide.{dec_lt, dec_le}
use native.Mathlib.Omega.{arith}
use borrow.Author.Tests.{le-leb, lt-leb}
use lib.Dec.{leb}
use Rattle.places.proofs.Tells.{denied, tells-iff, tells-same}
use Rattle.locks.specs.Jobs.{within}
use Rattle.locks.specs.Distances.{distance}
use Rattle.locks.proofs.Given.{within-tells}

-- where a time stands in its period k ticks on: still in this one, or in the next
pub data Moved (period phase k : ℕ) (later : ℕ) : Type 0 where
  this : phase + k < period → later ≡ phase + k → Moved period phase k later
  next : period ≤ phase + k → later + period ≡ phase + k → Moved period phase k later

pub moved : (period time k : ℕ) → 0 < period → k ≤ period → Moved period (time % period) k ((time + k) % period)
moved period time k some low = go (dec_lt (time % period + k) period)
  where
    go : Dec (time % period + k < period) → Moved period (time % period) k ((time + k) % period)
    go (yes h) = this h (sym (mod-add-mod time period k) ∙ mod-eq_of_lt h)
    go (no h) =
        let past : period ≤ time % period + k = omega arith in
        let low' : time % period + k - period < period = omega (arith, mod-lt time some) in
        let same : (time + k) % period ≡ time % period + k - period = sym (mod-add-mod time period k) ∙ mod-eq-sub-mod past ∙ mod-eq_of_lt low' in
        next past (omega arith)

-- the ticks from a time until one that stands at an offset of its period, at least one and no more than a period
pub comes-round : (period time offset : ℕ) → offset < period → (k : ℕ) × (0 < k) × (k ≤ period) × ((time + k) % period ≡ offset)
comes-round period time offset below = go (dec_le offset (time % period))
  where
    low : time % period < period
    low = mod-lt time (omega arith)

    at : (k : ℕ) → Moved period (time % period) k ((time + k) % period) → (time % period + k ≡ offset) ⊎ (time % period + k ≡ period + offset) → (time + k) % period ≡ offset
    at k (this h e) (inl f) = omega arith
    at k (this h e) (inr f) = absurd (omega arith)
    at k (next h e) (inl f) = absurd (omega arith)
    at k (next h e) (inr f) = omega arith

    go : Dec (offset ≤ time % period) → (k : ℕ) × (0 < k) × (k ≤ period) × ((time + k) % period ≡ offset)
    go (yes h) = (period + offset - time % period, omega (arith, low), omega arith, at _ (moved period time _ (omega arith) (omega arith)) (inr (omega (arith, low))))
    go (no h) = (offset - time % period, omega arith, omega arith, at _ (moved period time _ (omega arith) (omega arith)) (inl (omega arith)))

-- how far a start is: in this period, or in the next
pub data Far (period phase offset : ℕ) (far : ℕ) : Type 0 where
  ahead : phase ≤ offset → far + phase ≡ offset → Far period phase offset far
  round : offset < phase → far + phase ≡ period + offset → Far period phase offset far

pub far : (period phase offset : ℕ) → phase < period → Far period phase offset (distance period phase offset)
unfolding distance
far period phase offset below = go (dec_le phase offset)
  where
    go : Dec (phase ≤ offset) → Far period phase offset (cond (leb phase offset) (offset - phase) (period - phase + offset))
    go (yes h) = rw (le-leb phase offset h) (ahead h (omega arith))
    go (no h) = rw (lt-leb phase offset (omega arith)) (round (omega arith) (omega arith))

module _ (period time offset length : ℕ) (some : 0 < period) (inside : offset + length ≤ period) (long : 0 < length) (idle : within offset length (time % period) ≡ false) where
  abbrev start : ℕ
  start = distance period (time % period) offset

  phase-low : time % period < period
  phase-low = mod-lt time some

  -- the time lies before the job or after it
  beside : (time % period < offset) ⊎ (offset + length ≤ time % period)
  beside = go (dec_lt (time % period) offset) (dec_le (offset + length) (time % period))
    where
      go : Dec (time % period < offset) → Dec (offset + length ≤ time % period) → (time % period < offset) ⊎ (offset + length ≤ time % period)
      go (yes h) w = inl h
      go (no n) (yes h) = inr h
      go (no n) (no m) = absurd (denied (within-tells offset length (time % period)) idle (omega arith, omega arith))

  -- the job starts at least one tick on, and ends within a period from now
  pub distance-inside : (0 < start) × (start + length ≤ period)
  distance-inside = go (far period (time % period) offset phase-low) beside
    where
      go : Far period (time % period) offset start → (time % period < offset) ⊎ (offset + length ≤ time % period) → (0 < start) × (start + length ≤ period)
      go (ahead a e) (inl h) = (omega arith, omega arith)
      go (ahead a e) (inr h) = absurd (omega arith)
      go (round a e) (inl h) = absurd (omega arith)
      go (round a e) (inr h) = (omega (arith, phase-low), omega arith)

  module _ (k : ℕ) (low : k ≤ period) where
    abbrev later : ℕ
    later = (time + k) % period

    -- k ticks on the job runs exactly if k lies from its distance up to its length after that
    ran : ((offset ≤ later) × (later < offset + length)) ↔ ((start ≤ k) × (k < start + length))
    ran = go (moved period time k some low) (far period (time % period) offset phase-low) beside
      where
        go : Moved period (time % period) k later → Far period (time % period) offset start → (time % period < offset) ⊎ (offset + length ≤ time % period) → ((offset ≤ later) × (later < offset + length)) ↔ ((start ≤ k) × (k < start + length))
        go (this h e) (ahead a f) w = (λ c. (omega arith, omega arith), λ c. (omega arith, omega arith))
        go (this h e) (round a f) (inl b) = absurd (omega arith)
        go (this h e) (round a f) (inr b) = (λ c. absurd (omega arith), λ c. absurd (omega arith))
        go (next h e) (ahead a f) (inl b) = (λ c. absurd (omega arith), λ c. absurd (omega arith))
        go (next h e) (ahead a f) (inr b) = absurd (omega arith)
        go (next h e) (round a f) w = (λ c. (omega arith, omega arith), λ c. (omega arith, omega arith))

    pub runs-later : within offset length later ≡ within start length k
    runs-later = tells-same (tells-iff ran.0 ran.1 (within-tells offset length later)) (within-tells start length k)

    -- and starts exactly if k is its distance
    pub starts-later : 0 < k → (later ≡ offset) ↔ (k ≡ start)
    starts-later positive = go (moved period time k some low) (far period (time % period) offset phase-low) beside
      where
        go : Moved period (time % period) k later → Far period (time % period) offset start → (time % period < offset) ⊎ (offset + length ≤ time % period) → (later ≡ offset) ↔ (k ≡ start)
        go (this h e) (ahead a f) w = (λ c. omega arith, λ c. omega arith)
        go (this h e) (round a f) (inl b) = absurd (omega arith)
        go (this h e) (round a f) (inr b) = (λ c. absurd (omega arith), λ c. absurd (omega arith))
        go (next h e) (ahead a f) (inl b) = (λ c. absurd (omega arith), λ c. absurd (omega arith))
        go (next h e) (ahead a f) (inr b) = absurd (omega arith)
        go (next h e) (round a f) w = (λ c. omega arith, λ c. omega arith)
