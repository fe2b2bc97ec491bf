-- `analysis::common::tasks::Bearer::limit` meets its contract: before each turn the largest of what is borne so far is known, and of what was tried first. Assumes nothing.
use Prim.Native.Nat.{ℕ, ◌≤◌, max}
use mathlib.Core.Path.{◌≡◌}
use Rattle.places.specs.Places.{most_below}
use Rattle.analysis.specs.declared.common.tasks.Bearer.{Bearer}
use Rattle.analysis.specs.declared.Rule.{Rule}
use Rattle.analysis.specs.Common.ByRank.{backup_in}
use Rattle.analysis.specs.Common.Lent.{tasks_in}
use Rattle.analysis.specs.Bounds.Limits.{bears, borne}
use Rattle.analysis.proofs.common.tasks.Bearer.limit.Given as goal

-- what each task's backup brings
abbrev pub brought : Rule → Bearer → ℕ → ℕ
brought rule bearer k = borne (bears rule (tasks_in bearer.tasks) bearer.rank bearer.fault) (backup_in bearer.tasks.columns.now k)

abbrev pub invariant-loop-other : goal.invariant-loop-other
invariant-loop-other l = (l.other ≤ l.self.tasks.frame.count) × (l.most ≡ max l.initial.most (most_below (brought l.rule l.self) l.other))
