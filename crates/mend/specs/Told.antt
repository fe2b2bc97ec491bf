-- What the call tells, in numbers.
use Rattle.std.specs.Prelude.{ℕ}
use Rattle.mend.specs.declared.Changes.{Changes}

-- the refusal, or 0 beside the number of bytes written and the changes
pub record Mending : Type 0 where
  pub refusal : ℕ
  pub written : ℕ
  pub changes : Changes
