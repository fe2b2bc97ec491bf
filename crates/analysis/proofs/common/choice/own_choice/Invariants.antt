-- `analysis::common::choice::own_choice` meets its contract: before each turn the places below are filled. Assumes nothing.
use Prim.Native.Nat.{◌≤◌}
use mathlib.Core.Path.{◌≡◌}
use lib.ListN.{replicate}
use Rattle.places.specs.Places.{filled_below}
use Rattle.analysis.specs.Common.Tasks.{fault_at}
use Rattle.analysis.proofs.common.choice.own_choice.Given as goal

abbrev pub invariant-loop-place : goal.invariant-loop-place
invariant-loop-place l = (l.place ≤ 8) × (l.choice ≡ filled_below (fault_at l.table) l.place (replicate 8 0))
