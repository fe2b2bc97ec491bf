-- Larger numbers: the tasks in ticks that are K times as long. "each cost and backup divided by K and rounded up, each deadline, period, interval rounded down (round and share: refused unless K divides both)".
use Rattle.std.specs.Prelude.{ℕ, ◌/◌, ◌%◌, ◌≤◌, ◌<◌, ◌≡◌, cond, ◌⊎◌, eqb}
use Rattle.sheet.specs.declared.Record.{Record}
use Rattle.analysis.specs.Common.Rounding.{up}
use Rattle.analysis.specs.Common.Tasks.{Tasks}

-- "each cost and backup divided by K and rounded up, each deadline, period [..] rounded down"
abbrev pub scaled_record : ℕ → Record → Record
scaled_record K r =
    record {
      cost = up r.cost K;
      backup = up r.backup K;
      deadline = r.deadline / K;
      period = r.period / K;
      priority = r.priority;
      fault_priority = r.fault_priority;
    }

-- the round or the share divided by K; a processor that is all ours stays so
unfoldable pub scaled_part : ℕ → Tasks → ℕ → ℕ
scaled_part K s part = cond (eqb s.round s.share) part (part / K)

-- the tasks in the longer ticks
abbrev pub scaled_tasks : ℕ → Tasks → Tasks
scaled_tasks K s =
    record {
      count = s.count;
      at = λ place. scaled_record K (s.at place);
      interval = s.interval / K;
      round = scaled_part K s s.round;
      share = scaled_part K s s.share;
      fault = s.fault;
    }

-- K leaves a tick at least of each period and of the interval, so that it is not 0; and "K divides both" round and share, unless the processor is all ours
pub record Scalable (K : ℕ) (s : Tasks) : Type 0 where
  pub period : (place : ℕ) → place < s.count → 1 ≤ (s.at place).period / K
  pub interval : 1 ≤ s.interval / K
  pub shared : (s.round ≡ s.share) ⊎ ((s.round % K ≡ 0) × (s.share % K ≡ 0))

-- no task is late, whatever the size of its numbers: each has a time where the search goes up to its own deadline
abbrev pub NoneLate : (ℕ → Tasks → ℕ → ℕ) → Tasks → Type 0
NoneLate time_within s = (place : ℕ) → place < s.count → 1 ≤ time_within (s.at place).deadline s place
