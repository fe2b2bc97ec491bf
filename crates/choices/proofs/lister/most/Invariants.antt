-- `choices::lister::most` meets its contract: before each turn the product is that of the records so far. Assumes nothing.
use Prim.Native.Nat.{◌≤◌}
use mathlib.Core.Path.{◌≡◌}
use Rattle.choices.specs.Stepping.{factorial}
use Rattle.choices.proofs.lister.most.Given as goal

abbrev pub invariant-loop-records : goal.invariant-loop-records
invariant-loop-records l = (l.records ≤ l.all) × (l.choices ≡ factorial l.records)
