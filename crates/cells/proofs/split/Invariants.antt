-- `cells::split` meets its contract: before each turn the cells so far, with those of the bytes from the place on, are those of the line. Assumes nothing.
use mathlib.Core.Path.{◌≡◌}
use Prim.Native.Nat.{◌≤◌}
use lib.ListN.{length, drop}
use Rattle.cells.specs.Cells.{cells_from}
use Rattle.cells.proofs.split.Given as goal

abbrev pub invariant-loop-at : goal.invariant-loop-at
invariant-loop-at l = (l.at ≤ length l.line) × (cells_from l.cells l.separator l.span l.at (drop l.at l.line) ≡ cells_from l.initial.cells l.separator l.initial.span 0 l.line)
