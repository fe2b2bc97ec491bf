-- The columns of a text: by the names of its header line, or in their own order.
use Rattle.std.specs.Prelude.{ℕ, ◌+◌, Bool, true, false, cond, not, ◌||◌, List, [], ◌∷◌, eqb, leb, get_or, set, replicate}
use Rattle.cells.specs.Cells.{part_of}
use Rattle.cells.specs.Names.{column_of}
use Rattle.lines.specs.declared.Layout.{Layout}
use Rattle.lines.specs.declared.Reading.{Reading}
use Rattle.lines.specs.Troubles.{with_layout, is_refused, fails, fails_at_end}

-- "without a header the order is priority, fault priority, cost, backup, deadline, period"
abbrev pub plain_layout : ℕ → Layout
plain_layout separator =
    record { separator = separator; width = 6; columns = 1 ∷ 2 ∷ 3 ∷ 4 ∷ 5 ∷ 6 ∷ 0 ∷ 0 ∷ []; given = false ∷ true ∷ true ∷ true ∷ true ∷ true ∷ true ∷ false ∷ [] }

-- a header of which no name is read yet
abbrev pub named_layout : ℕ → Layout
named_layout separator = record { separator = separator; width = 0; columns = replicate 8 0; given = replicate 8 false }

unfoldable pub has_column : Layout → ℕ → Bool
has_column layout column = get_or layout.given column false

-- one column more
unfoldable pub with_column : Layout → ℕ → Layout
with_column layout column =
    cond (leb 8 layout.width || leb 8 column) layout
    (record { separator = layout.separator; width = layout.width + 1; columns = set layout.columns layout.width column; given = set layout.given column true })

-- a column's name: 38 "a name that is not known", 39 "twice"
unfoldable pub column_as : Reading → ℕ → List ℕ → ℕ → ℕ → ℕ → Reading
column_as r number line start end column =
    cond (eqb column 0) (fails r number line start end 38 0) (cond (has_column r.layout column) (fails r number line start end 39 column) (with_layout r (with_column r.layout column)))

-- a cell of the header line: 35 where it is empty
unfoldable pub column_to : Reading → ℕ → List ℕ → ℕ → ℕ → Reading
column_to r number line start end =
    cond (is_refused r) r (cond (eqb start end) (fails r number line start end 35 0) (column_as r number line start end (column_of (part_of line start end))))

-- "priority, cost, backup, period must be there"
unfoldable pub missing_column : Layout → ℕ
missing_column layout =
    cond (not (has_column layout 1)) 1 (cond (not (has_column layout 3)) 3 (cond (not (has_column layout 4)) 4 (cond (not (has_column layout 6)) 6 0)))

-- the header's end: 40 where a column is missing
unfoldable pub header_ended : Reading → ℕ → List ℕ → Reading
header_ended r number line = cond (is_refused r || eqb (missing_column r.layout) 0) r (fails_at_end r number line 40 (missing_column r.layout))
