-- `reasons::striking::largest` meets its contract: before each turn the largest of the places below is known, and whose it is. Assumes nothing.
use Prim.Native.Nat.{◌≤◌}
use mathlib.Core.Path.{◌≡◌}
use Rattle.analysis.specs.Common.Entries.{own_tasks}
use Rattle.reasons.specs.Told.{strike_told}
use Rattle.reasons.specs.Terms.{meant_backup}
use Rattle.reasons.specs.Strikes.{strike_below}
use Rattle.reasons.proofs.striking.largest.Given as goal

abbrev pub invariant-loop-other : goal.invariant-loop-other
invariant-loop-other l = (l.other ≤ l.table.count) × (l.strike ≡ strike_told (strike_below (meant_backup l.equation (own_tasks l.table) l.place) l.other))
