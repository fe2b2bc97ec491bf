-- `analysis::common::taken::Jump::take_runs` meets its contract. Assumes nothing.
use Prim.Native.Nat.{◌+◌, ◌-◌, ◌*◌, ◌≤◌}
use mathlib.Core.Path.{◌≡◌}
use Rattle.analysis.specs.declared.common.taken.Taken.{Taken}
use Rattle.analysis.specs.Common.Demand.{runs_of}
use Rattle.analysis.specs.Common.Lent.{tasks_in}
use Rattle.analysis.specs.Common.Jump.{struck_of, TakingBoth}
use Rattle.analysis.proofs.common.taken.Jump.take_runs.Given as goal

abbrev pub invariant-loop-rank : goal.invariant-loop-rank
invariant-loop-rank l =
    (l.from ≤ l.rank)
    × (l.rank - l.from ≤ l.until - l.from)
    × (l.taken.rest + (runs_of (tasks_in l.self.tasks) l.from l.until l.self.trial + struck_of l.self.tasks.frame l.initial.taken l.self.trial) ≡ l.initial.taken.rest + (runs_of (tasks_in l.self.tasks) l.rank l.until l.self.trial + struck_of l.self.tasks.frame l.taken l.self.trial))
    × (l.taken.rate ≤ l.initial.taken.rate + (l.rank - l.from) * 2198989701120)
    × ((r : Taken) → TakingBoth l.self.tasks.frame l.self.paid l.self.trial (runs_of (tasks_in l.self.tasks) l.rank l.until) l.taken r → TakingBoth l.self.tasks.frame l.self.paid l.self.trial (runs_of (tasks_in l.self.tasks) l.from l.until) l.initial.taken r)
