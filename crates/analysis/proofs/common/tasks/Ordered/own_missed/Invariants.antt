-- `analysis::common::tasks::Ordered::own_missed` meets its contract: no task before the rank misses its own backup. Assumes nothing.
use Prim.Native.Nat.{◌≤◌}
use mathlib.Core.Path.{◌≡◌}
use mathlib.Core.Bool.{false}
use Rattle.places.specs.Places.{some_below}
use Rattle.analysis.specs.Common.Lent.{tasks_in}
use Rattle.analysis.specs.Bounds.Hopeless.{own_missed}
use Rattle.analysis.proofs.common.tasks.Ordered.own_missed.Given as goal

abbrev pub invariant-loop-rank : goal.invariant-loop-rank
invariant-loop-rank l = (l.rank ≤ l.self.frame.count) × (some_below (own_missed (tasks_in l.self)) l.rank ≡ false)
