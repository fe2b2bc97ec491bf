-- `reasons::counting::tasks_of` meets its contract: the room is filled place by place. Assumes nothing.
use Prim.Native.Nat.{◌≤◌}
use mathlib.Core.Path.{◌≡◌}
use lib.ListN.{replicate}
use Rattle.places.specs.Places.{filled_below}
use Rattle.analysis.specs.Common.Entries.{own_tasks}
use Rattle.reasons.specs.Terms.{task_term, no_term}
use Rattle.reasons.proofs.counting.tasks_of.Given as goal

abbrev pub invariant-loop-other : goal.invariant-loop-other
invariant-loop-other l = (l.other ≤ l.table.count) × (l.tasks ≡ filled_below (task_term l.equation (own_tasks l.table) l.place l.length) l.other (replicate 8 no_term))
