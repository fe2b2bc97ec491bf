-- The demands that stand for the two equations over tasks in order, each with any largest backup. An inner device, tied to the equations by laws; no public promise cites it.
use Rattle.std.specs.Prelude.{ℕ, ◌+◌, ◌-◌}
use Rattle.analysis.specs.Common.Tasks.{Tasks}
use Rattle.analysis.specs.Common.Demand.{Demand, runs_of}

-- struck elsewhere: those above the task stand before it
abbrev pub elsewhere_demand : Tasks → ℕ → ℕ → Demand
elsewhere_demand s rank M = record { base = (s.at rank).cost; rank = rank; until = 0; backup = M; paid = 0 }

-- struck itself: those above its fault priority stand before the last, each of them after it runs once more, and the first fault is the task's own
abbrev pub itself_demand : Tasks → ℕ → ℕ → ℕ → Demand
itself_demand s rank fault N =
    record {
      base = (s.at rank).cost + (s.at rank).backup + runs_of s (rank + 1) (s.count - fault) 1;
      rank = rank;
      until = s.count - fault;
      backup = N;
      paid = N;
    }
