-- Lines that are understood, read from what their cells are: a task's and a header's. Assumes nothing.
use Prim.Native.Nat.{ℕ, zero, suc, ◌-◌, ◌≤◌, ◌<◌, min}
use mathlib.Core.Path.{◌≡◌, refl, sym, ap, ap₂, ◌∙◌, subst}
use mathlib.Core.Bool.{Bool, true, false, cond, ◌||◌}
use mathlib.Core.List.{List, []}
use native.Mathlib.Omega.{arith}
use borrow.Author.Tests.{ne_eqb, eq-eqb, lt-leb, le-ltb}
use lib.Dec.{eqb}
use lib.ListN.{length, get_or}
use Rattle.cells.specs.declared.Cells.{Cells}
use Rattle.cells.specs.Cells.{part_of, cells_of}
use Rattle.cells.specs.Numbers.{number_of}
use Rattle.cells.specs.Names.{name_of, column_of}
use Rattle.cells.specs.Raw.{is_none, cells_in, cell_at}
use Rattle.cells.proofs.Cut.{never}
use Rattle.cells.proofs.Found.{split_at, split-counted}
use Rattle.lines.specs.declared.Layout.{Layout}
use Rattle.lines.specs.declared.Task.{Task}
use Rattle.lines.specs.declared.Reading.{Reading}
use Rattle.lines.specs.Troubles.{task_at, start_of, end_of, cell_of, with_task, with_layout, is_refused, fails_at_end}
use Rattle.lines.specs.Columns.{has_column, with_column, column_as, column_to, missing_column, header_ended}
use Rattle.lines.specs.Tasks.{field_at, numbered, number_as, name_as, cell_as, cell_to, with_read, task_ended}
use Rattle.lines.specs.Lines.{cell_read, cells_read, header_read, task_with, task_read}
use Rattle.lines.specs.Told.{Good, told, told_below, layout_below}

-- a cell that ends where it begins is empty
part_none : (line : List ℕ) (at : ℕ) → part_of line at at ≡ []
unfolding part_of
part_none line at =
    let none : min at (length line) - min at (min at (length line)) ≡ 0 = omega arith in
    rw none refl

part_apart : (line : List ℕ) (start end : ℕ) → is_none (part_of line start end) ≡ false → eqb start end ≡ false
unfolding is_none
part_apart line start end some = ne_eqb start end (λ e. never (sym some ∙ ap is_none (ap (part_of line start) (sym e) ∙ part_none line start)))

-- a cell in its column
cell-told : (r : Reading) (number : ℕ) (line : List ℕ) (column start end : ℕ) → Good column (part_of line start end) → cell_as r number line column start end ≡ with_task r (told r.task column (part_of line start end))
unfolding cell_as name_as number_as told with_task
cell-told r number line column start end good = simp (part_apart line start end good.some) (go (eqb column 7) good.fine)
  where
    go : (named : Bool) → cond named (name_of (part_of line start end)).refusal (number_of (part_of line start end)).refusal ≡ 0
        → cond named (name_as r number line start end (name_of (part_of line start end))) (number_as r number line column start end (number_of (part_of line start end)))
        ≡ with_task r (cond named (record { line = r.task.line; numbers = r.task.numbers; name = (name_of (part_of line start end)).name }) (numbered r.task column (number_of (part_of line start end)).value))
    go true fine = simp (eq-eqb (name_of (part_of line start end)).refusal 0 fine)
    go false fine = simp (eq-eqb (number_of (part_of line start end)).refusal 0 fine)

clear-task : (r : Reading) (task : Task) → is_refused r ≡ false → is_refused (with_task r task) ≡ false
unfolding is_refused with_task
clear-task r task clear = clear

clear-layout : (r : Reading) (layout : Layout) → is_refused r ≡ false → is_refused (with_layout r layout) ≡ false
unfolding is_refused with_layout
clear-layout r layout clear = clear

-- a cell of a task's line at its place
to-told : (r : Reading) (number : ℕ) (line : List ℕ) (place start end : ℕ) → is_refused r ≡ false → place < r.layout.width → Good (field_at r.layout place) (part_of line start end)
    → cell_to r number line place start end ≡ with_task r (told r.task (field_at r.layout place) (part_of line start end))
unfolding cell_to
to-told r number line place start end clear below good = simp (clear, lt-leb r.layout.width place below) (cell-told r number line (field_at r.layout place) start end good)

laid : (r : Reading) (layout : Layout) → missing_column (with_layout r layout).layout ≡ missing_column layout
unfolding with_layout
laid r layout = refl

module _ (r : Reading) (number : ℕ) (line : List ℕ) (cells : Cells) (clear : is_refused r ≡ false) where
  -- the first cells of a task's line
  cells_told : (n : ℕ) → n ≤ r.layout.width → ((k : ℕ) → k < n → Good (field_at r.layout k) (cell_of line cells k))
      → cells_read false r number line cells n ≡ with_task r (told_below r.task (field_at r.layout) (cell_of line cells) n)
  unfolding cells_read told_below with_task cell_read cell_of
  cells_told zero fits good = refl
  cells_told (suc n) fits good =
      let before = cells_told n (omega arith) (λ k h. good k (omega arith)) in
      let task = told_below r.task (field_at r.layout) (cell_of line cells) n in
      ap (λ (u : Reading). cell_to u number line n (start_of cells n) (end_of cells n)) before
      ∙ to-told (with_task r task) number line n (start_of cells n) (end_of cells n) (clear-task r task clear) (omega arith) (good n (omega arith))

told-agree : (task : Task) (column : ℕ → ℕ) (a b : ℕ → List ℕ) (n : ℕ) → ((k : ℕ) → k < n → a k ≡ b k) → told_below task column a n ≡ told_below task column b n
unfolding told_below
told-agree task column a b zero same = refl
told-agree task column a b (suc n) same = ap₂ (λ (t : Task) (c : List ℕ). told t (column n) c) (told-agree task column a b n (λ k h. same k (omega arith))) (same n (omega arith))

-- the cells that are found in a line
pub cell-at : (separator : ℕ) (line : List ℕ) (place : ℕ) → place < length (cells_in separator line) → length (cells_in separator line) ≤ 8 → cell_of line (cells_of separator line) place ≡ get_or (cells_in separator line) place []
unfolding cell_of start_of end_of cell_at
cell-at separator line place below most = split_at separator line place (omega (arith, split-counted separator line))

-- the end of a task's line that has its cells
ended-told : (r : Reading) (number : ℕ) (line : List ℕ) (count : ℕ) → is_refused r ≡ false → r.layout.width ≤ count → task_ended r number line count ≡ with_read r
unfolding task_ended
ended-told r number line count clear fits = simp (clear, le-ltb count r.layout.width fits)

with-told : (r : Reading) (number : ℕ) (line : List ℕ) (found : Cells) → is_refused r ≡ false → r.count < 8 → r.layout.width ≤ 8 → found.count ≡ r.layout.width
    → ((k : ℕ) → k < r.layout.width → Good (field_at r.layout k) (cell_of line found k))
    → task_with r number line found ≡ with_read (with_task r (told_below r.task (field_at r.layout) (cell_of line found) r.layout.width))
unfolding task_with with_task
with-told r number line found clear few most long good =
    let all : min found.count 8 ≡ r.layout.width = omega arith in
    let task = told_below r.task (field_at r.layout) (cell_of line found) r.layout.width in
    let read : cells_read false r number line found (min found.count 8) ≡ with_task r task = ap (cells_read false r number line found) all ∙ cells_told r number line found clear r.layout.width (omega arith) good in
    simp (lt-leb 8 r.count few) (ap (λ (u : Reading). task_ended u number line found.count) read ∙ ended-told (with_task r task) number line found.count (clear-task r task clear) (wide task))
  where
    wide : (task : Task) → (with_task r task).layout.width ≤ found.count
    wide task = omega (arith, long)

-- a task's line whose cells are understood
pub task-line : (r : Reading) (number : ℕ) (line : List ℕ) → is_refused r ≡ false → r.count < 8 → r.layout.width ≤ 8 → length (cells_in r.layout.separator line) ≡ r.layout.width
    → ((k : ℕ) → k < r.layout.width → Good (field_at r.layout k) (get_or (cells_in r.layout.separator line) k []))
    → task_read r number line ≡ with_read (with_task r (told_below (task_at number) (field_at r.layout) (λ k. get_or (cells_in r.layout.separator line) k []) r.layout.width))
unfolding task_read with_task
task-line r number line clear few most long good =
    let separator = r.layout.separator in
    let found = cells_of separator line in
    let counted : found.count ≡ r.layout.width = split-counted separator line ∙ omega (arith, long) in
    let at : (k : ℕ) → k < r.layout.width → cell_of line found k ≡ get_or (cells_in separator line) k [] = λ k h. cell-at separator line k (omega (arith, long)) (omega (arith, long)) in
    with-told (with_task r (task_at number)) number line found (clear-task r (task_at number) clear) few most counted (λ k h. subst (Good (field_at r.layout k)) (sym (at k h)) (good k h))
    ∙ ap (λ (t : Task). with_read (with_task r t)) (told-agree (task_at number) (field_at r.layout) (cell_of line found) (λ k. get_or (cells_in separator line) k []) r.layout.width at)

-- a name of a header
to-column : (r : Reading) (number : ℕ) (line : List ℕ) (start end : ℕ) → is_refused r ≡ false → is_none (part_of line start end) ≡ false → eqb (column_of (part_of line start end)) 0 ≡ false
    → has_column r.layout (column_of (part_of line start end)) ≡ false → column_to r number line start end ≡ with_layout r (with_column r.layout (column_of (part_of line start end)))
unfolding column_to column_as
to-column r number line start end clear some known once = simp (clear, part_apart line start end some, known, once)

-- a name that is understood: not empty, of a column, and of none before it
pub record Heads (layout : Layout) (cell : ℕ → List ℕ) (k : ℕ) : Type 0 where
  pub some : is_none (cell k) ≡ false
  pub known : eqb (column_of (cell k)) 0 ≡ false
  pub once : has_column (layout_below layout (λ j. column_of (cell j)) k) (column_of (cell k)) ≡ false

module _ (r : Reading) (number : ℕ) (line : List ℕ) (cells : Cells) (clear : is_refused r ≡ false) where
  -- the first names of a header
  columns-told : (n : ℕ) → ((k : ℕ) → k < n → Heads r.layout (cell_of line cells) k) → cells_read true r number line cells n ≡ with_layout r (layout_below r.layout (λ j. column_of (cell_of line cells j)) n)
  unfolding cells_read layout_below with_layout cell_read cell_of
  columns-told zero heads = refl
  columns-told (suc n) heads =
      let before = columns-told n (λ k h. heads k (omega arith)) in
      let layout = layout_below r.layout (λ j. column_of (cell_of line cells j)) n in
      let here = heads n (omega arith) in
      ap (λ (u : Reading). column_to u number line (start_of cells n) (end_of cells n)) before
      ∙ to-column (with_layout r layout) number line (start_of cells n) (end_of cells n) (clear-layout r layout clear) here.some here.known here.once

columns-agree : (layout : Layout) (a b : ℕ → ℕ) (n : ℕ) → ((k : ℕ) → k < n → a k ≡ b k) → layout_below layout a n ≡ layout_below layout b n
unfolding layout_below
columns-agree layout a b zero same = refl
columns-agree layout a b (suc n) same = ap₂ with_column (columns-agree layout a b n (λ k h. same k (omega arith))) (same n (omega arith))

header-ended : (r : Reading) (number : ℕ) (line : List ℕ) → missing_column r.layout ≡ 0 → header_ended r number line ≡ r
unfolding header_ended
header-ended r number line whole = simp (eq-eqb (missing_column r.layout) 0 whole) (go (is_refused r))
  where
    go : (b : Bool) → cond (b || true) r (fails_at_end r number line 40 (missing_column r.layout)) ≡ r
    go true = refl
    go false = refl

-- a header whose names are understood
pub header-line : (r : Reading) (number : ℕ) (line : List ℕ) (separator : ℕ) → is_refused r ≡ false → length (cells_in separator line) ≤ 8
    → ((k : ℕ) → k < length (cells_in separator line) → Heads r.layout (λ j. get_or (cells_in separator line) j []) k)
    → missing_column (layout_below r.layout (λ j. column_of (get_or (cells_in separator line) j [])) (length (cells_in separator line))) ≡ 0
    → header_read r number line (cells_of separator line) ≡ with_layout r (layout_below r.layout (λ j. column_of (get_or (cells_in separator line) j [])) (length (cells_in separator line)))
unfolding header_read
header-line r number line separator clear most heads whole =
    let n = length (cells_in separator line) in
    let found = cells_of separator line in
    let all : min found.count 8 ≡ n = ap (λ (k : ℕ). min k 8) (split-counted separator line) ∙ omega arith in
    let at : (k : ℕ) → k < n → cell_of line found k ≡ get_or (cells_in separator line) k [] = λ k h. cell-at separator line k h most in
    let columns : (k : ℕ) → k ≤ n → layout_below r.layout (λ j. column_of (cell_of line found j)) k ≡ layout_below r.layout (λ j. column_of (get_or (cells_in separator line) j [])) k =
    λ k fits. columns-agree r.layout (λ j. column_of (cell_of line found j)) (λ j. column_of (get_or (cells_in separator line) j [])) k (λ j h. ap column_of (at j (omega arith))) in
    let found-heads : (k : ℕ) → k < n → Heads r.layout (cell_of line found) k =
    λ k h. record {
      some = ap is_none (at k h) ∙ (heads k h).some;
      known = ap (λ (c : List ℕ). eqb (column_of c) 0) (at k h) ∙ (heads k h).known;
      once = ap₂ (λ (l : Layout) (c : List ℕ). has_column l (column_of c)) (columns k (omega arith)) (at k h) ∙ (heads k h).once;
    } in
    let read = ap (cells_read true r number line found) all ∙ columns-told r number line found clear n found-heads ∙ ap (with_layout r) (columns n (omega arith)) in
    ap (λ (u : Reading). header_ended u number line) read ∙ header-ended (with_layout r (layout_below r.layout (λ j. column_of (get_or (cells_in separator line) j [])) n)) number line (laid r (layout_below r.layout (λ j. column_of (get_or (cells_in separator line) j [])) n) ∙ whole)
