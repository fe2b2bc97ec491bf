-- `cells::spans::has_outside` meets its contract: before each turn the bytes from the place on have the wanted one as the whole line has. Assumes nothing.
use mathlib.Core.Path.{◌≡◌}
use Prim.Native.Nat.{◌≤◌}
use mathlib.Core.Bool.{false}
use lib.ListN.{length, drop}
use Rattle.cells.specs.Cells.{has_outside}
use Rattle.cells.proofs.spans.has_outside.Given as goal

abbrev pub invariant-loop-byte : goal.invariant-loop-byte
invariant-loop-byte l = (l.byte-index ≤ length l.line) × (has_outside l.wanted l.quoted (drop l.byte-index l.line) ≡ has_outside l.wanted false l.line)
