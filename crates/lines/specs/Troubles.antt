-- What is not understood: where it stands and what stands there; and what is read of a text so far.
use Rattle.std.specs.Prelude.{ℕ, ◌+◌, min, Bool, false, cond, not, List, [], ◌∷◌, eqb, ltb, length, get_or, replicate}
use Rattle.places.specs.Places.{filled_below}
use Rattle.cells.specs.declared.Cells.{Cells}
use Rattle.cells.specs.Cells.{part_of}
use Rattle.cells.specs.Names.{no_name}
use Rattle.lines.specs.declared.Excerpt.{Excerpt}
use Rattle.lines.specs.declared.Trouble.{Trouble}
use Rattle.lines.specs.declared.Settings.{Settings}
use Rattle.lines.specs.declared.Layout.{Layout}
use Rattle.lines.specs.declared.Task.{Task}
use Rattle.lines.specs.declared.Reading.{Reading}

-- lines and columns are counted from 1; past 64 bits they stay
unfoldable pub after : ℕ → ℕ
after n = cond (ltb n 18446744073709551615) (n + 1) n

-- "up to 20 bytes of what stands there"
unfoldable pub excerpt_of : List ℕ → Excerpt
excerpt_of bytes = record { length = min (length bytes) 20; bytes = filled_below (λ place. get_or bytes place 0) (min (length bytes) 20) (replicate 20 0) }

-- nothing is wrong so far
abbrev pub no_trouble : Trouble
no_trouble = record { refusal = 0; line = 0; column = 0; field = 0; excerpt = record { length = 0; bytes = replicate 20 0 }; name = no_name }

-- a task's line of which nothing is read yet
abbrev pub task_at : ℕ → Task
task_at number = record { line = number; numbers = replicate 6 0; name = no_name }

-- a text of which nothing is read yet: no settings, with the whole processor where none is given; no columns; no tasks
abbrev pub no_settings : Settings
no_settings = record { given = replicate 4 false; values = 0 ∷ 0 ∷ 1 ∷ 1 ∷ [] }

abbrev pub no_layout : Layout
no_layout = record { separator = 0; width = 0; columns = replicate 8 0; given = replicate 8 false }

abbrev pub no_reading : Reading
no_reading = record { trouble = no_trouble; settings = no_settings; layout = no_layout; task = task_at 0; count = 0; tasks = replicate 8 (task_at 0) }

-- where a cell begins and ends
unfoldable pub start_of : Cells → ℕ → ℕ
start_of cells place = get_or cells.starts place 0

unfoldable pub end_of : Cells → ℕ → ℕ
end_of cells place = get_or cells.ends place 0

-- the bytes of a cell
unfoldable pub cell_of : List ℕ → Cells → ℕ → List ℕ
cell_of line cells place = part_of line (start_of cells place) (end_of cells place)

-- what is read of a text, with one part of it anew
unfoldable pub with_trouble : Reading → Trouble → Reading
with_trouble r trouble = record { trouble = trouble; settings = r.settings; layout = r.layout; task = r.task; count = r.count; tasks = r.tasks }

unfoldable pub with_settings : Reading → Settings → Reading
with_settings r settings = record { trouble = r.trouble; settings = settings; layout = r.layout; task = r.task; count = r.count; tasks = r.tasks }

unfoldable pub with_layout : Reading → Layout → Reading
with_layout r layout = record { trouble = r.trouble; settings = r.settings; layout = layout; task = r.task; count = r.count; tasks = r.tasks }

unfoldable pub with_task : Reading → Task → Reading
with_task r task = record { trouble = r.trouble; settings = r.settings; layout = r.layout; task = task; count = r.count; tasks = r.tasks }

-- whether something was not understood
unfoldable pub is_refused : Reading → Bool
is_refused r = not (eqb r.trouble.refusal 0)

-- "each refusal of the text has line, column, which column by name it is in, the task's name if one is known, and what stands there"
unfoldable pub fails : Reading → ℕ → List ℕ → ℕ → ℕ → ℕ → ℕ → Reading
fails r number line start end refusal field =
    with_trouble r (record { refusal = refusal; line = number; column = after start; field = field; excerpt = excerpt_of (part_of line start end); name = r.task.name })

-- "where something is missing, where the line ends"
unfoldable pub fails_at_end : Reading → ℕ → List ℕ → ℕ → ℕ → Reading
fails_at_end r number line refusal field = fails r number line (length line) (length line) refusal field
