-- One turn more of what a loop computes. Assumes nothing.
use Prim.Native.Nat.{ℕ, ◌+◌}
use mathlib.Core.Path.{◌≡◌}
use mathlib.Core.Bool.{Bool}
use mathlib.Core.List.{List}
use native.Mathlib.Numerals.{add-one}
use Rattle.cells.specs.declared.Cells.{Cells}
use Rattle.lines.specs.declared.Reading.{Reading}
use Rattle.lines.specs.Troubles.{start_of, end_of}
use Rattle.lines.specs.Lines.{cell_read, cells_read}

-- one cell more of a line
pub cells-turn : (is_header : Bool) (r : Reading) (number : ℕ) (line : List ℕ) (cells : Cells) (place : ℕ) {next here : Reading} {start end : ℕ}
    → next ≡ cells_read is_header r number line cells place → start ≡ start_of cells place → end ≡ end_of cells place → here ≡ cell_read is_header next number line place start end
    → here ≡ cells_read is_header r number line cells (place + 1)
unfolding cells_read
cells-turn is_header r number line cells place p q s e = rw add-one (cc)
