-- The text of a table, "with aligned columns under a comment that names them".
use Rattle.std.specs.Prelude.{ℕ, zero, suc, ◌+◌, ◌-◌, ◌*◌, cond, List, [], ◌∷◌, ◌++◌, length, get_or, replicate}
use Rattle.places.specs.Places.{joined_below}
use Rattle.sheet.specs.declared.Record.{Record}
use Rattle.sheet.specs.declared.Table.{Table}
use Rattle.sheet.specs.Layout.{is_whole, table_edition, record_at}
use Rattle.report.specs.Words.{newline}
use Rattle.report.specs.Decimal.{decimal}

-- "# interval"
abbrev pub interval_names : List ℕ
interval_names = 35 ∷ 32 ∷ 105 ∷ 110 ∷ 116 ∷ 101 ∷ 114 ∷ 118 ∷ 97 ∷ 108 ∷ 10 ∷ []

-- "#    round  share"
abbrev pub share_names : List ℕ
share_names = 35 ∷ 32 ∷ 32 ∷ 32 ∷ 32 ∷ 114 ∷ 111 ∷ 117 ∷ 110 ∷ 100 ∷ 32 ∷ 32 ∷ 115 ∷ 104 ∷ 97 ∷ 114 ∷ 101 ∷ 10 ∷ []

-- "# priority  fault   cost  backup  deadline  period"
abbrev pub task_names : List ℕ
task_names =
    35 ∷ 32 ∷ 112 ∷ 114 ∷ 105 ∷ 111 ∷ 114 ∷ 105 ∷ 116 ∷ 121 ∷ 32 ∷ 32 ∷ 102 ∷ 97 ∷ 117 ∷ 108 ∷ 116 ∷ 32 ∷ 32 ∷ 32 ∷ 99 ∷ 111 ∷ 115 ∷ 116 ∷ 32 ∷ 32 ∷ 98 ∷ 97 ∷ 99 ∷ 107 ∷ 117 ∷ 112 ∷ 32 ∷ 32 ∷ 100 ∷ 101 ∷ 97 ∷ 100 ∷ 108 ∷ 105 ∷ 110 ∷ 101 ∷ 32 ∷ 32 ∷ 112 ∷ 101 ∷ 114 ∷ 105 ∷ 111 ∷ 100 ∷ 10 ∷ []

-- the columns' widths, which are those of the names above them
abbrev pub widths : List ℕ
widths = 10 ∷ 7 ∷ 7 ∷ 8 ∷ 10 ∷ 8 ∷ []

-- the bytes of a line before a column
unfoldable pub column_at : ℕ → ℕ
column_at zero = 0
column_at (suc place) = column_at place + get_or widths place 0

-- a number at the right end of a column
unfoldable pub padded : ℕ → ℕ → List ℕ
padded width n = replicate (width - length (decimal n)) 32 ++ decimal n

-- the number at a place of a line, in that place's column
unfoldable pub cell_text : List ℕ → ℕ → List ℕ
cell_text numbers place = padded (get_or widths place 0) (get_or numbers place 0)

-- a line of so many numbers
unfoldable pub row_text : List ℕ → ℕ → List ℕ
row_text numbers count = joined_below (cell_text numbers) count ++ newline

-- a task's numbers in the order of their columns
unfoldable pub task_numbers : Record → List ℕ
task_numbers r = r.priority ∷ r.fault_priority ∷ r.cost ∷ r.backup ∷ r.deadline ∷ r.period ∷ []

-- the lines of the interval
unfoldable pub interval_text : ℕ → List ℕ
interval_text interval = interval_names ++ row_text (interval ∷ 0 ∷ 0 ∷ 0 ∷ 0 ∷ 0 ∷ []) 1

-- those of round and share, which a table of the whole processor has not
unfoldable pub share_text : ℕ → ℕ → List ℕ
share_text round share = cond (is_whole round share) [] (share_names ++ row_text (round ∷ share ∷ 0 ∷ 0 ∷ 0 ∷ 0 ∷ []) 2)

-- and that of the task at a place
unfoldable pub task_text : List Record → ℕ → List ℕ
task_text records place = row_text (task_numbers (record_at records place)) 6

-- the text of a table
unfoldable pub shown_text : Table → List ℕ
shown_text t = interval_text t.interval ++ share_text t.round t.share ++ task_names ++ joined_below (task_text t.records) t.count

-- its bytes: 22 for the interval, 36 for round and share where there are any, 51 for the names of a task's columns and for each task
unfoldable pub text_size : Table → ℕ
text_size t = 73 + 36 * table_edition t + 51 * t.count
