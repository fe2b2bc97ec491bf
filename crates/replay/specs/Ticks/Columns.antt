-- The eight cells as four columns of numbers, one for each part of a cell: the form in which the loop over a log holds them. An inner device; no public promise cites it.
use Rattle.std.specs.Prelude.{ℕ, not, List, ◌==◌, slice_index}
use Rattle.replay.specs.declared.Cell.{Cell}
use Rattle.replay.specs.declared.ticks.columns.Columns.{Columns}
use Rattle.replay.specs.Ticks.Cells.{eight}

-- the cell of a slot: the work left, the ticks until the deadline and until the next legal release, and a number other than 0 for a backup
unfoldable pub cell_in : List ℕ → List ℕ → List ℕ → List ℕ → ℕ → Cell
cell_in left rest wait backups slot = record { is_backup = not (slice_index backups slot == 0); left = slice_index left slot; rest = slice_index rest slot; wait = slice_index wait slot }

-- the eight cells
unfoldable pub cells_in : List ℕ → List ℕ → List ℕ → List ℕ → List Cell
cells_in left rest wait backups = eight (cell_in left rest wait backups)

-- the cells that columns are
abbrev pub cells_shown : Columns → List Cell
cells_shown columns = cells_in columns.left columns.rest columns.wait columns.backups
