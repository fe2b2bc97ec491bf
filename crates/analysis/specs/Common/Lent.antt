-- What the structs that the searches are lent stand for. An inner device; no public promise cites it.
use Rattle.std.specs.Prelude.{ℕ, []}
use Rattle.analysis.specs.declared.common.tasks.Ordered.{Ordered}
use Rattle.analysis.specs.declared.common.tasks.Chosen.{Chosen}
use Rattle.analysis.specs.declared.common.search.Search.{Search}
use Rattle.analysis.specs.Common.Tasks.{Tasks}
use Rattle.analysis.specs.Common.Demand.{Demand, demand_of}
use Rattle.analysis.specs.Common.ByRank.{ranked}

-- tasks in order, without a choice
abbrev pub tasks_in : Ordered → Tasks
tasks_in o = ranked o.columns.now o.frame []

-- and under one
abbrev pub chosen_in : Chosen → Tasks
chosen_in c = ranked c.tasks.columns.now c.tasks.frame c.faults.now

-- the demand of a search
abbrev pub demand_in : Search → Demand
demand_in d = record { base = d.base; rank = d.rank; until = d.until; backup = d.backup; paid = d.paid }

-- what it asks of a length
abbrev pub asked_in : Search → ℕ → ℕ
asked_in d = demand_of (tasks_in d.tasks) (demand_in d)
