-- The cells of the eight slots: what each holds of its task's job, in ticks that count down.
use Rattle.std.specs.Prelude.{ℕ, Bool, false, not, List, replicate, ◌==◌, slice_index_or}
use Rattle.places.specs.Places.{filled_below}
use Rattle.replay.specs.declared.Cell.{Cell}

-- a cell without a job, whose task may be released at once
abbrev pub no_cell : Cell
no_cell = record { is_backup = false; left = 0; rest = 0; wait = 0 }

-- the cell of a slot
unfoldable pub cell_at : List Cell → ℕ → Cell
cell_at cells slot = slice_index_or cells slot no_cell

-- the eight cells of which each is given by its slot
unfoldable pub eight : (ℕ → Cell) → List Cell
eight cell = filled_below cell 8 (replicate 8 no_cell)

-- a job is ready as long as it has work left
unfoldable pub is_ready : Cell → Bool
is_ready cell = not (cell.left == 0)
