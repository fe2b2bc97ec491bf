-- `cells::numbers::is_paired` meets its contract: before each turn the bytes from the place on are paired as all of them are. Assumes nothing.
use mathlib.Core.Path.{◌≡◌}
use Prim.Native.Nat.{◌≤◌}
use mathlib.Core.Bool.{false}
use lib.ListN.{length, drop}
use Rattle.cells.specs.Numbers.{paired}
use Rattle.cells.proofs.numbers.is_paired.Given as goal

abbrev pub invariant-loop-byte : goal.invariant-loop-byte
invariant-loop-byte l = (l.byte-index ≤ length l.bytes) × (paired l.odd (drop l.byte-index l.bytes) ≡ paired false l.bytes)
