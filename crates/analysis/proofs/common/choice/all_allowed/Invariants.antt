-- `analysis::common::choice::all_allowed` meets its contract: those passed are allowed. Assumes nothing.
use Prim.Native.Nat.{◌≤◌}
use mathlib.Core.Path.{◌≡◌}
use lib.ListN.{drop}
use Rattle.analysis.specs.Common.Columns.{priorities_of}
use Rattle.analysis.specs.Common.Allowed.{all_allowed}
use Rattle.analysis.proofs.common.choice.all_allowed.Given as goal

abbrev pub invariant-loop-place : goal.invariant-loop-place
invariant-loop-place l = (l.place ≤ 8) × (all_allowed (priorities_of l.table) l.choice ≡ all_allowed (drop l.place (priorities_of l.table)) (drop l.place l.choice))
