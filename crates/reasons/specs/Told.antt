-- What the call tells, in numbers: a refusal, or 0, and beside it the reason. And what of it the answers of the code hold.
use Rattle.std.specs.Prelude.{ℕ, Bool, List, Option, Some, None}
use Rattle.analysis.specs.declared.Equation.{Equation}
use Rattle.reasons.specs.declared.Term.{Term}
use Rattle.reasons.specs.declared.Tip.{Tip}
use Rattle.reasons.specs.declared.Reason as reason
use Rattle.reasons.specs.declared.striking.Strike as strike

-- whose backup is the largest of those that count: nobody's, or that of the record at a place
pub data Whose : Type 0 where
  Nobody : Whose
  At : ℕ → Whose

unfoldable pub whose_told : Whose → Option ℕ
whose_told Nobody = None
whose_told (At place) = Some place

-- the largest backup, and whose it is
pub record Strike : Type 0 where
  pub backup : ℕ
  pub whose : Whose

abbrev pub strike_told : Strike → strike.Strike
strike_told s = record { backup = s.backup; whose = whose_told s.whose }

-- the refusal, or 0 beside the equation that decides, the length and the deadline, the terms at that length, whose the faults' backup is, their sum, whether the task is late, and the term that tips it
pub record Reason : Type 0 where
  pub refusal : ℕ
  pub equation : Equation
  pub length : ℕ
  pub deadline : ℕ
  pub cost : ℕ
  pub backup : ℕ
  pub tasks : List Term
  pub faults : Term
  pub whose : Whose
  pub supplier : Term
  pub sum : ℕ
  pub late : Bool
  pub tip : Tip

-- the reason of it alone
abbrev pub reason_told : Reason → reason.Reason
reason_told r =
    record {
      equation = r.equation;
      length = r.length;
      deadline = r.deadline;
      cost = r.cost;
      backup = r.backup;
      tasks = r.tasks;
      faults = r.faults;
      whose = whose_told r.whose;
      supplier = r.supplier;
      sum = r.sum;
      late = r.late;
      tip = r.tip;
    }
