-- The largest backup beside whose it is, as the code finds both place by place. An inner device, tied to the terms by a law; no public promise cites it.
use Rattle.std.specs.Prelude.{ℕ, max, cond, ltb}
use Rattle.places.specs.Places.{most_below}
use Rattle.reasons.specs.Told.Whose.{At}
use Rattle.reasons.specs.Told.{Strike}
use Rattle.reasons.specs.Terms.{owner_below}

-- the largest value of the places below n, and the first place that has it
abbrev pub strike_below : (ℕ → ℕ) → ℕ → Strike
strike_below value n = record { backup = most_below value n; whose = owner_below value n }

-- one place more
unfoldable pub larger_of : Strike → ℕ → ℕ → Strike
larger_of strike backup place = record { backup = max strike.backup backup; whose = cond (ltb strike.backup backup) (At place) strike.whose }
