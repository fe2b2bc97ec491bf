-- `analysis::common::tasks::Chosen::meets` meets its contract: no task from the rank on misses its deadline. Assumes nothing.
use Prim.Native.Nat.{ℕ, ◌≤◌, ◌<◌}
use mathlib.Core.Path.{◌≡◌}
use mathlib.Core.Bool.{Bool, false}
use Rattle.analysis.specs.declared.Rule.{Rule}
use Rattle.analysis.specs.Common.Entries.{is_late}
use Rattle.analysis.specs.Common.Tasks.{Tasks}
use Rattle.analysis.specs.Common.Lent.{chosen_in}
use Rattle.analysis.specs.ByRule.{time_by}
use Rattle.analysis.proofs.common.tasks.Chosen.meets.Given as goal

-- whether the task at a rank misses it
abbrev pub missed : Rule → Tasks → ℕ → Bool
missed rule s rank = is_late (s.at rank).deadline (time_by rule s rank)

abbrev pub invariant-loop-rank : goal.invariant-loop-rank
invariant-loop-rank l = (l.rank ≤ l.self.tasks.frame.count) × ((k : ℕ) → l.rank ≤ k → k < l.self.tasks.frame.count → missed l.rule (chosen_in l.self) k ≡ false)
