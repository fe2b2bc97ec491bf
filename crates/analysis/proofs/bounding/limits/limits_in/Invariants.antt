-- `analysis::bounding::limits::limits_in` meets its contract: before each turn the limits below are filled. Assumes nothing.
use Prim.Native.Nat.{ℕ, ◌/◌, ◌%◌, ◌≤◌}
use mathlib.Core.Path.{◌≡◌}
use lib.ListN.{replicate}
use Rattle.places.specs.Places.{filled_below}
use Rattle.sheet.specs.declared.Table.{Table}
use Rattle.analysis.specs.declared.Rule.{Rule}
use Rattle.analysis.specs.Bounds.Limits.{limit_at}
use Rattle.analysis.proofs.bounding.limits.limits_in.Given as goal

-- the limit at each index
abbrev pub limit_in : Rule → Table → ℕ → ℕ
limit_in rule table k = limit_at rule table (k / 9) (k % 9)

abbrev pub invariant-loop-at : goal.invariant-loop-at
invariant-loop-at l = (l.at ≤ l.end) × (l.end ≤ 72) × (l.limits ≡ filled_below (limit_in l.rule l.table) l.at (replicate 72 0))
