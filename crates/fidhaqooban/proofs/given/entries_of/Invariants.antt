-- `fidhaqooban::given::entries_of` meets its contract: before each turn the choice's entries are those still in the rest, and then those put.
-- Assumes nothing.
use Prim.Native.Nat.{◌^◌, ◌<◌, ◌≤◌}
use mathlib.Core.Path.{◌≡◌}
use mathlib.Core.List.{◌++◌}
use lib.ListN.{length, drop, replicate}
use Rattle.sheet.specs.Packing.{bits_of, unpacked}
use Rattle.fidhaqooban.proofs.given.entries_of.Given as goal

abbrev pub invariant-loop-place : goal.invariant-loop-place
invariant-loop-place l = (l.place ≤ 8) × (length l.entries ≡ 8) × (l.rest < 2 ^ bits_of (replicate l.place 4)) × (unpacked (replicate 8 4) l.choice ≡ unpacked (replicate l.place 4) l.rest ++ drop l.place l.entries)
