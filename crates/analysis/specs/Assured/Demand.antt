-- The demand that stands for the assured equation over tasks in order, with any largest backup. An inner device, tied to the equation by a law; no public promise cites it.
use Rattle.std.specs.Prelude.{ℕ, ◌-◌}
use Rattle.analysis.specs.Common.Demand.{Demand}
use Rattle.analysis.specs.Common.Tasks.{Tasks}

-- every other task above its fault priority, and every fault
abbrev pub assured_demand : Tasks → ℕ → ℕ → ℕ → Demand
assured_demand s rank fault N = record { base = (s.at rank).cost; rank = rank; until = s.count - fault; backup = N; paid = 0 }
