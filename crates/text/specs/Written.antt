-- A table's text as a planner may write it: with any separator, under column names in any order.
use Rattle.std.specs.Prelude.{ℕ, List, [], ◌∷◌, ◌++◌, get_or}
use Rattle.places.specs.Places.{joined_below}
use Rattle.cells.specs.Names.{priority_name, fault_name, cost_name, backup_name, deadline_name, period_name}
use Rattle.sheet.specs.declared.Record.{Record}
use Rattle.sheet.specs.declared.Table.{Table}
use Rattle.sheet.specs.Layout.{record_at}
use Rattle.report.specs.Words.{newline}
use Rattle.report.specs.Decimal.{decimal}
use Rattle.text.specs.Shown.{task_numbers, interval_text, share_text}

-- the separators: a tab, a semicolon, a comma, a blank
pub data Separator : ℕ → Type 0 where
  tab : Separator 9
  semicolon : Separator 59
  comma : Separator 44
  space : Separator 32

-- words with a separator between them
unfoldable pub separated : ℕ → List (List ℕ) → List ℕ
separated separator [] = []
separated separator (word ∷ []) = word
separated separator (word ∷ next ∷ words) = word ++ (separator ∷ separated separator (next ∷ words))

-- the names of the six columns of numbers
unfoldable pub column_names : List (List ℕ)
column_names = priority_name ∷ fault_name ∷ cost_name ∷ backup_name ∷ deadline_name ∷ period_name ∷ []

-- six columns in an order: their names, and a task's numbers under them
unfoldable pub names_in : (ℕ → ℕ) → List (List ℕ)
names_in order = joined_below (λ place. get_or column_names (order place) [] ∷ []) 6

unfoldable pub numbers_in : (ℕ → ℕ) → Record → List (List ℕ)
numbers_in order task = joined_below (λ place. decimal (get_or (task_numbers task) (order place) 0) ∷ []) 6

unfoldable pub task_line : ℕ → (ℕ → ℕ) → List Record → ℕ → List ℕ
task_line separator order records place = separated separator (numbers_in order (record_at records place)) ++ newline

-- the settings, the columns' names, and a line for each task
unfoldable pub written_text : ℕ → (ℕ → ℕ) → Table → List ℕ
written_text separator order t =
    interval_text t.interval ++ share_text t.round t.share ++ (separated separator (names_in order) ++ newline) ++ joined_below (task_line separator order t.records) t.count
