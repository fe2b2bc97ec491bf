-- Lines that are understood: what a task's line tells, cell by cell, and what a header does.
use Rattle.std.specs.Prelude.{ℕ, zero, suc, ◌≡◌, false, cond, List, [], ◌∷◌, eqb}
use Rattle.places.specs.Places.{joined_below}
use Rattle.cells.specs.Numbers.{number_of}
use Rattle.cells.specs.Names.{name_of}
use Rattle.cells.specs.Raw.{is_none}
use Rattle.lines.specs.declared.Layout.{Layout}
use Rattle.lines.specs.declared.Task.{Task}
use Rattle.lines.specs.Columns.{with_column}
use Rattle.lines.specs.Tasks.{numbered}

-- a cell that its column understands: not empty, and a name or a number
pub record Good (column : ℕ) (cell : List ℕ) : Type 0 where
  pub some : is_none cell ≡ false
  pub fine : cond (eqb column 7) (name_of cell).refusal (number_of cell).refusal ≡ 0

-- a task with such a cell
unfoldable pub told : Task → ℕ → List ℕ → Task
told task column cell =
    cond (eqb column 7) (record { line = task.line; numbers = task.numbers; name = (name_of cell).name }) (numbered task column (number_of cell).value)

-- with the first cells of a line
unfoldable pub told_below : Task → (ℕ → ℕ) → (ℕ → List ℕ) → ℕ → Task
told_below task column cell zero = task
told_below task column cell (suc n) = told (told_below task column cell n) (column n) (cell n)

-- the columns after the first names of a header
unfoldable pub layout_below : Layout → (ℕ → ℕ) → ℕ → Layout
layout_below layout column zero = layout
layout_below layout column (suc n) = with_column (layout_below layout column n) (column n)

-- the cells of a line, each with its column
unfoldable pub fields_below : (ℕ → ℕ) → (ℕ → List ℕ) → ℕ → List (ℕ × List ℕ)
fields_below column cell n = joined_below (λ place. (column place, cell place) ∷ []) n

-- in another order: two cells of different columns may change places
pub data Reordered : List (ℕ × List ℕ) → List (ℕ × List ℕ) → Type 0 where
  same : (fields : List (ℕ × List ℕ)) → Reordered fields fields
  swapped : (a b : ℕ × List ℕ) (fields : List (ℕ × List ℕ)) → (a.0 ≡ b.0 → ⊥) → Reordered (a ∷ b ∷ fields) (b ∷ a ∷ fields)
  under : (field : ℕ × List ℕ) {a b : List (ℕ × List ℕ)} → Reordered a b → Reordered (field ∷ a) (field ∷ b)
  onward : {a b c : List (ℕ × List ℕ)} → Reordered a b → Reordered b c → Reordered a c
