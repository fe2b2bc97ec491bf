-- `cores::fitting::first_fit` meets its contract: before each turn every record before the place has its core. Assumes nothing.
use Prim.Native.Nat.{◌≤◌}
use mathlib.Core.Path.{◌≡◌}
use Rattle.analysis.specs.Common.Entries.{own_tasks}
use Rattle.cores.proofs.FittedSoFar.{given, Fitted}
use Rattle.cores.proofs.fitting.first_fit.Given as goal

abbrev pub invariant-loop-place : goal.invariant-loop-place
invariant-loop-place l = (l.place ≤ l.count) × (l.cores ≡ given (own_tasks l.table) l.number l.place) × Fitted (own_tasks l.table) l.number l.place
