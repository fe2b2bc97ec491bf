-- `analysis::common::tasks::Chosen::assessed` meets its contract: before each turn the entries of the places below stand there, and it is known whether one of them says late. Assumes nothing.
use Prim.Native.Nat.{ℕ, ◌≤◌}
use mathlib.Core.Path.{◌≡◌}
use mathlib.Core.Bool.{Bool}
use mathlib.Core.List.{List}
use lib.ListN.{get_or, replicate}
use Rattle.places.specs.Places.{some_below, filled_below}
use Rattle.analysis.specs.declared.Entry.{Entry}
use Rattle.analysis.specs.declared.Rule.{Rule}
use Rattle.analysis.specs.Common.Tasks.{Tasks}
use Rattle.analysis.specs.Common.Entries.{is_late, no_entry}
use Rattle.analysis.specs.Common.Lent.{chosen_in}
use Rattle.analysis.specs.ByRule.{time_by, entry_by}
use Rattle.analysis.proofs.common.tasks.Chosen.assessed.Given as goal

-- the entry by a rule of the task whose rank stands at a place, and whether it is late
abbrev pub entry_at : Rule → Tasks → List ℕ → ℕ → Entry
entry_at rule s ranks place = entry_by rule s (get_or ranks place 0)

abbrev pub late_at : Rule → Tasks → List ℕ → ℕ → Bool
late_at rule s ranks place = is_late (s.at (get_or ranks place 0)).deadline (time_by rule s (get_or ranks place 0))

abbrev pub invariant-loop-place : goal.invariant-loop-place
invariant-loop-place l =
    (l.place ≤ l.self.tasks.frame.count)
    × (l.entries ≡ filled_below (entry_at l.rule (chosen_in l.self) l.ranks) l.place (replicate 8 no_entry))
    × (l.some_late ≡ some_below (late_at l.rule (chosen_in l.self) l.ranks) l.place)
