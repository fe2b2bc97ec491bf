-- A line's cells: where each begins and ends. Blanks around a cell do not count, and double quotes protect what stands between them.
use Rattle.std.specs.Prelude.{ℕ, ◌+◌, ◌-◌, min, Bool, false, cond, not, ◌&&◌, ◌||◌, List, [], ◌∷◌, eqb, ltb, length, take, drop, set, replicate}
use Rattle.cells.specs.declared.Span.{Span}
use Rattle.cells.specs.declared.Cells.{Cells}
use Rattle.cells.specs.Kinds.{is_blank, separates, runs, blanks}

-- the cell that is being read: no byte of it yet
abbrev pub empty_at : ℕ → Span
empty_at at = record { start = at; end = at; quoted = false }

unfoldable pub is_empty : Span → Bool
is_empty span = eqb span.start span.end

-- a double quote opens or closes a protected part
unfoldable pub turned : Bool → ℕ → Bool
turned quoted byte = cond (eqb byte 34) (not quoted) quoted

-- a separator outside quotes ends the cell
unfoldable pub ends_cell : ℕ → Span → ℕ → Bool
ends_cell separator span byte = not span.quoted && separates separator byte

-- the cell with a byte of its own
unfoldable pub grown : Span → ℕ → ℕ → Span
grown span byte at = record { start = cond (is_empty span) at span.start; end = at + 1; quoted = turned span.quoted byte }

-- the cell after a byte that does not end it: blanks before its first byte and after its last do not count
unfoldable pub within : Span → ℕ → ℕ → Span
within span byte at = cond (is_blank byte && not span.quoted) (cond (is_empty span) (empty_at (at + 1)) span) (grown span byte at)

-- the cell that is being read after a byte: the next one after a separator
unfoldable pub span_after : ℕ → Span → ℕ → ℕ → Span
span_after separator span byte at = cond (ends_cell separator span byte) (empty_at (at + 1)) (within span byte at)

-- no cells yet
abbrev pub no_cells : Cells
no_cells = record { count = 0; starts = replicate 8 0; ends = replicate 8 0 }

-- one cell more; eight are kept
unfoldable pub with_cell : Cells → Span → Cells
with_cell cells span =
    cond (ltb cells.count 8) (record { count = cells.count + 1; starts = set cells.starts cells.count span.start; ends = set cells.ends cells.count span.end }) cells

-- the cells after a byte: "each separator ends a cell", but in a run of blanks
unfoldable pub cells_after : Cells → ℕ → Span → ℕ → Cells
cells_after cells separator span byte = cond (ends_cell separator span byte && not (runs separator && is_empty span)) (with_cell cells span) cells

-- the cells at the line's end: "one trailing separator at a line's end is passed over"
unfoldable pub cells_at_end : Cells → Span → Cells
cells_at_end cells span = cond (is_empty span) cells (with_cell cells span)

-- the cells with those of the bytes from a place on
unfoldable pub cells_from : Cells → ℕ → Span → ℕ → List ℕ → Cells
cells_from cells separator span at [] = cells_at_end cells span
cells_from cells separator span at (byte ∷ bytes) = cells_from (cells_after cells separator span byte) separator (span_after separator span byte at) (at + 1) bytes

-- `split`: the cells of a line
unfoldable pub cells_of : ℕ → List ℕ → Cells
cells_of separator line = cells_from no_cells separator (empty_at 0) 0 line

-- the bytes of a line from a place to another, as far as it has them
unfoldable pub part_of : List ℕ → ℕ → ℕ → List ℕ
part_of line start end =
    let stop = min end (length line) in
    take (stop - min start stop) (drop (min start stop) line)

-- whether a line has a byte outside quotes
unfoldable pub has_outside : ℕ → Bool → List ℕ → Bool
has_outside wanted quoted [] = false
has_outside wanted quoted (byte ∷ bytes) = (not quoted && eqb byte wanted) || has_outside wanted (turned quoted byte) bytes

-- `separator_of`: "a tab if it has one outside quotes, else a semicolon, else a comma, else blanks"
unfoldable pub separator_of : List ℕ → ℕ
separator_of line = cond (has_outside 9 false line) 9 (cond (has_outside 59 false line) 59 (cond (has_outside 44 false line) 44 blanks))
