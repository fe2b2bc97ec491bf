-- `fidhaqooban::answers::choice_of` meets its contract: before each turn the number is that of the entries below the place. Assumes nothing.
use Prim.Native.Nat.{◌≤◌}
use mathlib.Core.Path.{◌≡◌}
use lib.ListN.{take, replicate}
use Rattle.sheet.specs.Packing.{packed}
use Rattle.fidhaqooban.proofs.answers.choice_of.Given as goal

abbrev pub invariant-loop-place : goal.invariant-loop-place
invariant-loop-place l = (l.place ≤ 8) × (l.choice ≡ packed (replicate l.place 4) (take l.place l.entries))
