-- What a jump knows while it takes the terms of a demand one by one: what comes often is taken at its rate, what comes seldom as often as in the trial. An inner device; no public promise cites it.
use Rattle.std.specs.Prelude.{ℕ, ◌+◌, ◌-◌, ◌*◌, ◌≤◌, ◌<◌, max, ◌≡◌, cond, leb, ltb}
use Rattle.analysis.specs.declared.common.by_rank.Frame.{Frame}
use Rattle.analysis.specs.declared.common.taken.Taken.{Taken}
use Rattle.analysis.specs.Common.Rounding.{up}

-- rates are counted in parts of 2^24
abbrev pub unit : ℕ
unit = 16777216

-- the length found so far, or the one at which the rates and the rest are met, if that is larger: none is where the rates make a unit
unfoldable pub further_of : ℕ → ℕ → ℕ → ℕ → ℕ
further_of found rate rest paid = cond (ltb paid rest) (max found (cond (leb unit rate) 65536 (up (unit * (rest - paid)) (unit - rate)))) found

-- a longer length is asked no less
abbrev pub Rising : (ℕ → ℕ) → Type 0
Rising asked = (a b : ℕ) → a ≤ b → asked a ≤ asked b

-- what is left of a total beside what is taken, at a trial and at each length from it on; and each of these that is enough, but for what is paid, is no shorter than the one found
pub record Passed (total : ℕ → ℕ) (paid trial : ℕ) (left : ℕ → ℕ) (taken : Taken) : Type 0 where
  pub rest : taken.rest ≡ left trial
  pub parted : (L : ℕ) → trial ≤ L → unit * left L + L * taken.rate ≤ unit * total L
  pub found : (L : ℕ) → trial ≤ L → total L ≤ L + paid → taken.found ≤ L

-- what the faults ask that are not taken yet
abbrev pub struck_of : Frame → Taken → ℕ → ℕ
struck_of frame taken L = up L frame.interval * taken.backup

-- a term is taken, whatever the total and whatever else is left of it
abbrev pub Taking : ℕ → ℕ → (ℕ → ℕ) → Taken → Taken → Type 0
Taking paid trial term taken r = (total left : ℕ → ℕ) → Rising left → Passed total paid trial (λ L. left L + term L) taken → Passed total paid trial left r

-- the faults are taken, or not
abbrev pub TakingFaults : Frame → ℕ → ℕ → Taken → Taken → Type 0
TakingFaults frame paid trial taken r =
    (total left : ℕ → ℕ) → Rising left → Passed total paid trial (λ L. left L + struck_of frame taken L) taken → Passed total paid trial (λ L. left L + struck_of frame r L) r

-- a term is taken, and the faults before it, or not
abbrev pub TakingBoth : Frame → ℕ → ℕ → (ℕ → ℕ) → Taken → Taken → Type 0
TakingBoth frame paid trial term taken r =
    (total left : ℕ → ℕ) → Rising left → Passed total paid trial (λ L. left L + (term L + struck_of frame taken L)) taken → Passed total paid trial (λ L. left L + struck_of frame r L) r

-- each length from a trial on and before another asks more than itself
abbrev pub Missed : (ℕ → ℕ) → ℕ → ℕ → Type 0
Missed asked trial until = (L : ℕ) → trial ≤ L → L < until → L < asked L
