-- What a decision tells, in numbers.
use Rattle.std.specs.Prelude.{ℕ, Bool}

-- the refusal, or 0 beside whether the candidate is to be loaded
pub record Decision : Type 0 where
  pub refusal : ℕ
  pub loads : Bool
