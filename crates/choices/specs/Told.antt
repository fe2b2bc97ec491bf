-- What calls tell, in numbers: a refusal, or 0, and beside it what is asked for. And what the code shows of a step.
use Rattle.std.specs.Prelude.{ℕ}
use Rattle.places.specs.Answered.{numbered}
use Rattle.choices.specs.declared.Walk.{Walk}
use Rattle.choices.specs.declared.Arrival as arrivals
use Rattle.choices.specs.declared.Arrival.TheVariants.{Found as Came, End as Over, Refused as Barred}
use Rattle.choices.specs.declared.Stepped as steps

-- what a step comes to: a choice, the end, or the number of a refusal
pub data Arrival : Type 0 where
  Found : Arrival
  End : Arrival
  Refused : ℕ → Arrival

-- the next walk, and what the step came to
pub record Stepped : Type 0 where
  pub walk : Walk
  pub arrival : Arrival

-- both, with the refusal of that number
abbrev pub arrived : Arrival → arrivals.Arrival
arrived Found = Came
arrived End = Over
arrived (Refused refusal) = Barred (numbered refusal)

abbrev pub shown : Stepped → steps.Stepped
shown stepped = record { walk = stepped.walk; arrival = arrived stepped.arrival }

-- the refusal, or 0 beside the number of entries
pub record Listing : Type 0 where
  pub refusal : ℕ
  pub entries : ℕ
