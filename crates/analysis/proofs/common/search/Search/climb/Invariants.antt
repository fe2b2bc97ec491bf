-- `analysis::common::search::Search::climb` meets its contract: every length below the trial asks for more than itself. Assumes nothing.
use Prim.Native.Nat.{suc, ◌≤◌, ◌-◌}
use Rattle.analysis.specs.Common.Jump.{Missed}
use Rattle.analysis.specs.Common.Lent.{asked_in}
use Rattle.analysis.proofs.common.search.Search.climb.Given as goal

abbrev pub invariant-loop-trial : goal.invariant-loop-trial
invariant-loop-trial l = (l.start ≤ l.trial.length) × Missed (asked_in l.self) l.start l.trial.length

abbrev pub decreases-loop-trial : goal.decreases-loop-trial
decreases-loop-trial l = suc l.limit - l.trial.length
