-- `analysis::bounding::weighed::Weighed::within` meets its contract: every record so far is within its limits. Assumes nothing.
use Prim.Native.Nat.{◌≤◌}
use mathlib.Core.Path.{◌≡◌}
use mathlib.Core.Bool.{false}
use Rattle.places.specs.Places.{some_below}
use Rattle.analysis.specs.Bounds.Lent.{weighed_in}
use Rattle.analysis.proofs.Laws.Bounds.Weighing.{past}
use Rattle.analysis.proofs.bounding.weighed.Weighed.within.Given as goal

abbrev pub invariant-loop-place : goal.invariant-loop-place
invariant-loop-place l = (l.place ≤ l.self.count) × (some_below (past l.rule (weighed_in l.self) l.self.choice.now) l.place ≡ false)
