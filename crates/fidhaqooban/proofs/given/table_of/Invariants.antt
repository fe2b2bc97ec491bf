-- `fidhaqooban::given::table_of` meets its contract: before each turn the records below the place are filled. Assumes nothing.
use Prim.Native.Nat.{◌≤◌}
use mathlib.Core.Path.{◌≡◌}
use lib.ListN.{replicate}
use Rattle.places.specs.Places.{filled_below}
use Rattle.fidhaqooban.specs.Numbers.{given_record}
use Rattle.fidhaqooban.proofs.given.table_of.Given as goal

abbrev pub invariant-loop-place : goal.invariant-loop-place
invariant-loop-place l = (l.place ≤ 8) × (l.records ≡ filled_below (given_record l.numbers) l.place (replicate 8 (given_record l.numbers 0)))
