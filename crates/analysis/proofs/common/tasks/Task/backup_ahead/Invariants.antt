-- `analysis::common::tasks::Task::backup_ahead` meets its contract: before each turn the largest of what the ranks below bring is known. Assumes nothing.
use Prim.Native.Nat.{◌≤◌, ◌<◌}
use mathlib.Core.Path.{◌≡◌}
use lib.ListN.{get_or}
use Rattle.places.specs.Places.{most_below}
use Rattle.analysis.specs.Common.Lent.{chosen_in}
use Rattle.analysis.proofs.Laws.Assured.ByRank.{brought_ahead}
use Rattle.analysis.proofs.common.tasks.Task.backup_ahead.Given as goal

abbrev pub invariant-loop-other : goal.invariant-loop-other
invariant-loop-other l =
    (l.self.rank < l.other)
    × (l.other ≤ l.tasks.frame.count)
    × (l.fault ≡ get_or l.self.among.faults.now l.self.rank 0)
    × (l.most ≡ most_below (brought_ahead (chosen_in l.self.among) l.self.rank) l.other)
