-- A line cut into its cells, as lists of bytes: what `split` finds are these.
use Rattle.std.specs.Prelude.{ℕ, Bool, true, false, cond, not, ◌&&◌, List, [], ◌∷◌, ◌++◌, get_or}
use Rattle.places.specs.Places.{joined_below}
use Rattle.cells.specs.declared.Cells.{Cells}
use Rattle.cells.specs.Kinds.{is_blank, separates, runs}
use Rattle.cells.specs.Cells.{turned, part_of}

-- a byte more of the first cell
unfoldable pub with_first : ℕ → List (List ℕ) → List (List ℕ)
with_first byte [] = (byte ∷ []) ∷ []
with_first byte (cell ∷ cells) = (byte ∷ cell) ∷ cells

-- the raw cells of a line: cut at each separator outside quotes, and nowhere else
unfoldable pub raw_cells : ℕ → Bool → List ℕ → List (List ℕ)
raw_cells separator quoted [] = [] ∷ []
raw_cells separator quoted (byte ∷ bytes) =
    cond (not quoted && separates separator byte) ([] ∷ raw_cells separator false bytes) (with_first byte (raw_cells separator (turned quoted byte) bytes))

-- the separators outside quotes, in their order
unfoldable pub separators_in : ℕ → Bool → List ℕ → List ℕ
separators_in separator quoted [] = []
separators_in separator quoted (byte ∷ bytes) = cond (not quoted && separates separator byte) (byte ∷ separators_in separator false bytes) (separators_in separator (turned quoted byte) bytes)

-- cells with separators between them
unfoldable pub joined : List ℕ → List (List ℕ) → List ℕ
joined [] [] = []
joined [] (cell ∷ cells) = cell
joined (separator ∷ separators) [] = separator ∷ joined separators []
joined (separator ∷ separators) (cell ∷ cells) = cell ++ separator ∷ joined separators cells

-- whether there are no bytes
unfoldable pub is_none : List ℕ → Bool
is_none [] = true
is_none (byte ∷ bytes) = false

-- "blanks around a cell do not count": those before its first byte,
unfoldable pub after_blanks : List ℕ → List ℕ
after_blanks [] = []
after_blanks (byte ∷ bytes) = cond (is_blank byte) (after_blanks bytes) (byte ∷ bytes)

-- and those after its last, outside quotes
unfoldable pub before_blanks : Bool → List ℕ → List ℕ
before_blanks quoted [] = []
before_blanks quoted (byte ∷ bytes) =
    let rest = before_blanks (turned quoted byte) bytes in
    cond (is_blank byte && not quoted && is_none rest) [] (byte ∷ rest)

unfoldable pub trimmed : List ℕ → List ℕ
trimmed cell = before_blanks false (after_blanks cell)

unfoldable pub trimmed_all : List (List ℕ) → List (List ℕ)
trimmed_all [] = []
trimmed_all (cell ∷ cells) = trimmed cell ∷ trimmed_all cells

-- "with blanks, any run separates": an empty cell is none there; and an empty cell at the line's end is none
unfoldable pub kept : ℕ → List (List ℕ) → List (List ℕ)
kept separator [] = []
kept separator (cell ∷ []) = cond (is_none cell) [] (cell ∷ [])
kept separator (cell ∷ next ∷ cells) = cond (runs separator && is_none cell) (kept separator (next ∷ cells)) (cell ∷ kept separator (next ∷ cells))

-- the cells of a line
unfoldable pub cells_in : ℕ → List ℕ → List (List ℕ)
cells_in separator line = kept separator (trimmed_all (raw_cells separator false line))

-- the bytes of the cells that `split` found
unfoldable pub cell_at : List ℕ → Cells → ℕ → List ℕ
cell_at line cells place = part_of line (get_or cells.starts place 0) (get_or cells.ends place 0)

unfoldable pub listed : List ℕ → Cells → List (List ℕ)
listed line cells = joined_below (λ place. cell_at line cells place ∷ []) cells.count
