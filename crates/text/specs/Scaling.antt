-- Figures of any size as a table's: "each cost and backup divided by K and rounded up, each deadline, period, interval rounded down".
use Rattle.std.specs.Prelude.{ℕ, zero, suc, ◌+◌, ◌/◌, ◌%◌, min, max, Bool, false, cond, ◌&&◌, ◌||◌, List, [], eqb, ltb, get_or, set, replicate}
use Rattle.sheet.specs.declared.Record.{Record}
use Rattle.sheet.specs.declared.Table.{Table}
use Rattle.sheet.specs.Layout.{is_whole, no_record, no_table}
use Rattle.sheet.specs.Rules.{table_refusal}
use Rattle.lines.specs.declared.Task.{Task}
use Rattle.lines.specs.declared.Figures.{Figures}
use Rattle.text.specs.declared.Fitted.{Fitted}

-- rounded up; the remainder counts as one
unfoldable pub up : ℕ → ℕ → ℕ
up n scale = cond (eqb (n % scale) 0) (n / scale) (n / scale + 1)

-- the least scale at which a number that is rounded up fits sixteen bits, and one that is rounded down
unfoldable pub least_up : ℕ → ℕ
least_up n = up n 65535

unfoldable pub least_down : ℕ → ℕ
least_down n = n / 65536 + 1

unfoldable pub number_at : Task → ℕ → ℕ
number_at task place = get_or task.numbers place 0

-- the least scale of a task: its cost and backup are rounded up, its deadline and period down
unfoldable pub least_of : Task → ℕ
least_of task = max (max (least_up (number_at task 2)) (least_up (number_at task 3))) (max (least_down (number_at task 4)) (least_down (number_at task 5)))

-- whether four bits hold its priorities, which no scale changes
unfoldable pub is_high : Task → Bool
is_high task = ltb 15 (number_at task 0) || ltb 15 (number_at task 1)

-- the task at a place; past the last there is none
abbrev pub past_task : Task
past_task = record { line = 0; numbers = []; name = record { length = 0; bytes = [] } }

unfoldable pub task_of : List Task → ℕ → Task
task_of tasks place = get_or tasks place past_task

-- the least scale of the interval, round and share
unfoldable pub least_first : Figures → ℕ
least_first figures = max (least_down figures.interval) (max (least_up figures.round) (least_up figures.share))

-- a least scale with those of the first tasks
unfoldable pub least_below : ℕ → List Task → ℕ → ℕ
least_below least tasks zero = least
least_below least tasks (suc place) = max (least_below least tasks place) (least_of (task_of tasks place))

unfoldable pub high_below : List Task → ℕ → Bool
high_below tasks zero = false
high_below tasks (suc place) = high_below tasks place || is_high (task_of tasks place)

-- "the least scale that makes all fit", 0 where none does
unfoldable pub least_scale : Figures → ℕ
least_scale figures = cond (high_below figures.tasks (min figures.count 8)) 0 (least_below (least_first figures) figures.tasks (min figures.count 8))

-- a task's numbers in a record's widths
unfoldable pub scaled_task : Task → ℕ → Record
scaled_task task scale =
    record {
      cost = min (up (number_at task 2) scale) 65535;
      backup = min (up (number_at task 3) scale) 65535;
      deadline = min (number_at task 4 / scale) 65535;
      period = min (number_at task 5 / scale) 65535;
      priority = min (number_at task 0) 15;
      fault_priority = min (number_at task 1) 15;
    }

-- the records of the first tasks, zeros after them
unfoldable pub records_below : List Task → ℕ → ℕ → List Record
records_below tasks scale zero = replicate 8 no_record
records_below tasks scale (suc place) = set (records_below tasks scale place) place (scaled_task (task_of tasks place) scale)

-- what round and share are divided by: "a whole processor stays whole at every scale", so there is nothing to divide
unfoldable pub share_scale : Figures → ℕ → ℕ
share_scale figures scale = cond (is_whole figures.round figures.share) 1 scale

-- the table of the figures at a scale
unfoldable pub scaled_table : Figures → ℕ → Table
scaled_table figures scale =
    record {
      count = figures.count;
      interval = min (figures.interval / scale) 65535;
      round = min (figures.round / share_scale figures scale) 65535;
      share = min (figures.share / share_scale figures scale) 65535;
      records = records_below figures.tasks scale (min figures.count 8);
    }

-- `unjudged`: the same, of zeros at a scale of 0
unfoldable pub unjudged_by : Figures → ℕ → Table
unjudged_by figures scale = cond (eqb scale 0) no_table (scaled_table figures scale)

-- whether nothing of round and share is left over
unfoldable pub divides : Figures → ℕ → Bool
divides figures scale = eqb (figures.round % share_scale figures scale) 0 && eqb (figures.share % share_scale figures scale) 0

-- refused beside the least scale that would do
abbrev pub not_scaled : ℕ → ℕ → Fitted
not_scaled refusal least = record { refusal = refusal; least = least; table = no_table }

-- a table that is good, or the number of the rule that it breaks
unfoldable pub judged : Table → Fitted
judged table = cond (eqb (table_refusal table) 0) (record { refusal = 0; least = 0; table = table }) (not_scaled (table_refusal table) 0)

-- where all fits: 45 where the scale does not divide round and share
unfoldable pub scaled_fit : Figures → ℕ → Fitted
scaled_fit figures scale = cond (divides figures scale) (judged (scaled_table figures scale)) (not_scaled 45 0)

-- `scaled`: 46 for a scale of 0; 31 "with the least scale that makes all fit"
unfoldable pub scaled_by : Figures → ℕ → Fitted
scaled_by figures scale =
    cond (eqb scale 0) (not_scaled 46 0) (cond (eqb (least_scale figures) 0 || ltb scale (least_scale figures)) (not_scaled 31 (least_scale figures)) (scaled_fit figures scale))
