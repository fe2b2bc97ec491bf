-- A line of a text: nothing, a setting, the header, or a task.
use Rattle.std.specs.Prelude.{ℕ, zero, suc, min, Bool, true, false, cond, ◌||◌, List, eqb, leb}
use Rattle.cells.specs.declared.Cells.{Cells}
use Rattle.cells.specs.Cells.{cells_of, separator_of}
use Rattle.cells.specs.Kinds.{loose}
use Rattle.cells.specs.Names.{setting_of}
use Rattle.lines.specs.declared.Reading.{Reading}
use Rattle.lines.specs.Troubles.{task_at, start_of, end_of, cell_of, with_layout, with_task, is_refused, fails}
use Rattle.lines.specs.Settings.{is_given, begins_number, setting_to, is_lone, is_named_line, is_pair, named_read, pair_read}
use Rattle.lines.specs.Columns.{plain_layout, named_layout, column_to, header_ended}
use Rattle.lines.specs.Tasks.{cell_to, task_ended}

-- a cell of the header line, or of a task's
unfoldable pub cell_read : Bool → Reading → ℕ → List ℕ → ℕ → ℕ → ℕ → Reading
cell_read is_header r number line place start end = cond is_header (column_to r number line start end) (cell_to r number line place start end)

-- the line's cells one after the other: "the first thing in reading order that is not understood is the one named"
unfoldable pub cells_read : Bool → Reading → ℕ → List ℕ → Cells → ℕ → Reading
cells_read is_header r number line cells zero = r
cells_read is_header r number line cells (suc place) = cell_read is_header (cells_read is_header r number line cells place) number line place (start_of cells place) (end_of cells place)

-- the header line
unfoldable pub header_read : Reading → ℕ → List ℕ → Cells → Reading
header_read r number line cells = header_ended (cells_read true r number line cells (min cells.count 8)) number line

-- a task's line: 34, "a ninth task line begins"
unfoldable pub task_with : Reading → ℕ → List ℕ → Cells → Reading
task_with r number line cells =
    cond (leb 8 r.count) (fails r number line (start_of cells 0) (end_of cells 0) 34 0) (task_ended (cells_read false r number line cells (min cells.count 8)) number line cells.count)

unfoldable pub task_read : Reading → ℕ → List ℕ → Reading
task_read r number line = task_with (with_task r (task_at number)) number line (cells_of r.layout.separator line)

-- the first line that is no setting: its separator is the text's; 33 where there was no interval before it
unfoldable pub columns_read : Reading → ℕ → List ℕ → Cells → ℕ → Reading
columns_read r number line words separator =
    cond (begins_number (cell_of line words 0)) (task_read (with_layout r (plain_layout separator)) number line) (header_read (with_layout r (named_layout separator)) number line (cells_of separator line))

unfoldable pub first_read : Reading → ℕ → List ℕ → Cells → Reading
first_read r number line words =
    cond (is_given r.settings 1) (columns_read r number line words (separator_of line)) (fails r number line (start_of words 0) (end_of words 0) 33 0)

-- a line before the first task's: a setting, or the first that is none
unfoldable pub early_read : Reading → ℕ → List ℕ → Cells → Reading
early_read r number line words =
    cond (is_lone r line words) (setting_to r number line 1 (start_of words 0) (end_of words 0))
    (cond (is_named_line line words) (named_read r number line words (setting_of (cell_of line words 0)))
    (cond (is_pair r line words) (pair_read r number line words) (first_read r number line words)))

-- a line: "a line without content says nothing"
unfoldable pub words_read : Reading → ℕ → List ℕ → Cells → Reading
words_read r number line words = cond (is_refused r || eqb words.count 0) r (cond (eqb r.layout.separator 0) (early_read r number line words) (task_read r number line))

unfoldable pub line_read : Reading → ℕ → List ℕ → Reading
line_read r number line = words_read r number line (cells_of loose line)
