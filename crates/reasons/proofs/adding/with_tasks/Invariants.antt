-- `reasons::adding::with_tasks` meets its contract: before each turn the terms of the places below are added. Assumes nothing.
use Prim.Native.Nat.{◌+◌, ◌*◌, ◌≤◌}
use mathlib.Core.Path.{◌≡◌}
use Rattle.reasons.specs.Adding.{tasks_added}
use Rattle.reasons.proofs.adding.with_tasks.Given as goal

abbrev pub invariant-loop-place : goal.invariant-loop-place
invariant-loop-place l = (l.place ≤ 8) × (l.so_far ≡ tasks_added l.deadline l.tasks l.place l.initial.so_far) × (l.so_far.sum ≤ 131070 + l.place * 281470681677825)
