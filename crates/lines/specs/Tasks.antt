-- A task's line: a cell for each column.
use Rattle.std.specs.Prelude.{ℕ, ◌+◌, ◌-◌, cond, ◌||◌, List, eqb, ltb, leb, get_or, set}
use Rattle.cells.specs.declared.Number.{Number}
use Rattle.cells.specs.declared.Named.{Named}
use Rattle.cells.specs.Cells.{part_of}
use Rattle.cells.specs.Numbers.{number_of}
use Rattle.cells.specs.Names.{name_of}
use Rattle.lines.specs.declared.Layout.{Layout}
use Rattle.lines.specs.declared.Task.{Task}
use Rattle.lines.specs.declared.Reading.{Reading}
use Rattle.lines.specs.Troubles.{with_task, is_refused, fails, fails_at_end}
use Rattle.lines.specs.Columns.{has_column}

-- the column of a line's cell
unfoldable pub field_at : Layout → ℕ → ℕ
field_at layout place = get_or layout.columns place 0

-- a task with one number more: its numbers are priority, fault priority, cost, backup, deadline, period
unfoldable pub numbered : Task → ℕ → ℕ → Task
numbered task column value = cond (eqb column 0 || ltb 6 column) task (record { line = task.line; numbers = set task.numbers (column - 1) value; name = task.name })

-- a cell as a number, and why it is none
unfoldable pub number_as : Reading → ℕ → List ℕ → ℕ → ℕ → ℕ → Number → Reading
number_as r number line column start end value =
    cond (eqb value.refusal 0) (with_task r (numbered r.task column value.value)) (fails r number line start end value.refusal column)

-- a cell as the task's name, and why it is none
unfoldable pub name_as : Reading → ℕ → List ℕ → ℕ → ℕ → Named → Reading
name_as r number line start end named =
    cond (eqb named.refusal 0) (with_task r (record { line = r.task.line; numbers = r.task.numbers; name = named.name })) (fails r number line start end named.refusal 7)

-- a cell in its column: 35, "an empty cell is refused with its place"
unfoldable pub cell_as : Reading → ℕ → List ℕ → ℕ → ℕ → ℕ → Reading
cell_as r number line column start end =
    cond (eqb start end) (fails r number line start end 35 column)
    (cond (eqb column 7) (name_as r number line start end (name_of (part_of line start end))) (number_as r number line column start end (number_of (part_of line start end))))

-- the cell at a place: 32 where it is one too many
unfoldable pub cell_to : Reading → ℕ → List ℕ → ℕ → ℕ → ℕ → Reading
cell_to r number line place start end =
    cond (is_refused r) r (cond (leb r.layout.width place) (fails r number line start end 32 0) (cell_as r number line (field_at r.layout place) start end))

-- "without a fault column each q is its p"
unfoldable pub with_fault : Layout → List ℕ → List ℕ
with_fault layout numbers = cond (has_column layout 2) numbers (set numbers 1 (get_or numbers 0 0))

-- "without a deadline column each D is its T"
unfoldable pub with_deadline : Layout → List ℕ → List ℕ
with_deadline layout numbers = cond (has_column layout 5) numbers (set numbers 4 (get_or numbers 5 0))

unfoldable pub filled_task : Layout → Task → Task
filled_task layout task = record { line = task.line; numbers = with_deadline layout (with_fault layout task.numbers); name = task.name }

-- the tasks with the one that was read; eight are the most
unfoldable pub with_read : Reading → Reading
with_read r =
    cond (leb 8 r.count) r
    (record {
      trouble = r.trouble;
      settings = r.settings;
      layout = r.layout;
      task = r.task;
      count = r.count + 1;
      tasks = set r.tasks r.count (filled_task r.layout r.task);
    })

-- the line's end: 33 where a cell is missing
unfoldable pub task_ended : Reading → ℕ → List ℕ → ℕ → Reading
task_ended r number line count =
    cond (is_refused r) r (cond (ltb count r.layout.width) (fails_at_end r number line 33 (field_at r.layout count)) (with_read r))
