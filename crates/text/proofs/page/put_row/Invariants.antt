-- `text::page::put_row` meets its contract: before each turn the numbers below the place are put. Assumes nothing.
use Prim.Native.Nat.{◌+◌, ◌≤◌}
use mathlib.Core.Path.{◌≡◌}
use Rattle.places.specs.Places.{joined_below}
use Rattle.text.specs.Shown.{column_at, cell_text}
use Rattle.text.specs.Putting.{Put}
use Rattle.text.proofs.page.put_row.Given as goal

abbrev pub invariant-loop-place : goal.invariant-loop-place
invariant-loop-place l = (l.place ≤ l.count) × (l.end ≡ l.at + column_at l.place) × Put l.initial.out l.at (joined_below (cell_text l.numbers) l.place) (column_at l.place) l.out
