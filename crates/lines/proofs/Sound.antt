-- What is read of a text is fine, or what is not understood has a number from 30 to 44 with a line and a column of at least 1. Assumes nothing.
use Prim.Native.Nat.{ℕ, zero, suc, ◌+◌, ◌≤◌, min}
use mathlib.Core.Path.{◌≡◌, refl, sym, ap, ◌∙◌, subst}
use mathlib.Core.Bool.{Bool, true, false, cond, ◌||◌}
use mathlib.Core.List.{List}
use native.Mathlib.Omega.{arith}
use borrow.Author.Tests.{eq-eqb, ltb-false}
use lib.Dec.{eqb, ltb, leb, lit≤}
use Rattle.cells.specs.declared.Cells.{Cells}
use Rattle.cells.specs.declared.Number.{Number}
use Rattle.cells.specs.declared.Named.{Named}
use Rattle.cells.specs.Kinds.{loose}
use Rattle.cells.specs.Cells.{part_of, cells_of, separator_of}
use Rattle.cells.specs.Numbers.{number_of}
use Rattle.cells.specs.Names.{setting_of, column_of, name_of}
use Rattle.cells.proofs.Refusals.{Own, none, own, number-own, name-own}
use Rattle.lines.specs.declared.Trouble.{Trouble}
use Rattle.lines.specs.declared.Reading.{Reading}
use Rattle.lines.specs.Troubles.{after, task_at, start_of, end_of, cell_of, with_trouble, with_settings, with_layout, with_task, is_refused, fails, fails_at_end}
use Rattle.lines.specs.Settings.{is_given, begins_number, setting_with, setting_to, is_lone, is_named_line, is_pair, no_more, named_read, share_after, pair_read}
use Rattle.lines.specs.Columns.{plain_layout, named_layout, has_column, column_as, column_to, missing_column, header_ended}
use Rattle.lines.specs.Tasks.{field_at, number_as, name_as, cell_as, cell_to, with_read, task_ended}
use Rattle.lines.specs.Lines.{cell_read, cells_read, header_read, task_with, task_read, columns_read, first_read, early_read, words_read, line_read}
use Rattle.lines.specs.Answers.{unmarked, content_taken, line_taken, ended_at}

-- nothing is wrong, or something has its place
pub data Sound (r : Reading) : Type 0 where
  fine : r.trouble.refusal ≡ 0 → Sound r
  placed : 30 ≤ r.trouble.refusal → r.trouble.refusal ≤ 44 → 1 ≤ r.trouble.line → 1 ≤ r.trouble.column → Sound r

pick : {x y : Reading} (b : Bool) → Sound x → Sound y → Sound (cond b x y)
pick true p q = p
pick false p q = q

kept : {r u : Reading} → u.trouble ≡ r.trouble → Sound r → Sound u
kept e (fine is) = fine (ap (λ (t : Trouble). t.refusal) e ∙ is)
kept e (placed low high line column) =
    placed (subst (λ (t : Trouble). 30 ≤ t.refusal) (sym e) low) (subst (λ (t : Trouble). t.refusal ≤ 44) (sym e) high) (subst (λ (t : Trouble). 1 ≤ t.line) (sym e) line) (subst (λ (t : Trouble). 1 ≤ t.column) (sym e) column)

-- lines and columns are counted from 1
pub after-some : (n : ℕ) → 1 ≤ after n
unfolding after
after-some n = go (ltb n 18446744073709551615) refl
  where
    go : (is : Bool) → ltb n 18446744073709551615 ≡ is → 1 ≤ cond is (n + 1) n
    go true e = omega arith
    go false e = omega (arith, ltb-false n 18446744073709551615 e)

module _ (number : ℕ) (some : 1 ≤ number) (line : List ℕ) where
  failing : (r : Reading) (start end refusal field : ℕ) → 30 ≤ refusal → refusal ≤ 44 → Sound (fails r number line start end refusal field)
  unfolding fails with_trouble
  failing r start end refusal field low high = placed low high some (after-some start)

  missing : (r : Reading) (refusal field : ℕ) → 30 ≤ refusal → refusal ≤ 44 → Sound (fails_at_end r number line refusal field)
  unfolding fails_at_end
  missing r refusal field low high = failing r _ _ refusal field low high

  -- what a cell is, or its own refusal
  owned : {x : Reading} (r : Reading) (start end field refusal : ℕ) → Own refusal → Sound x → Sound (cond (eqb refusal 0) x (fails r number line start end refusal field))
  owned r start end field refusal (none z) p = simp (eq-eqb refusal 0 z) p
  owned r start end field refusal (own low high) p = pick (eqb refusal 0) p (failing r start end refusal field low (omega arith))

  module _ (r : Reading) (sound : Sound r) where
    -- settings
    setting-with : (which start end : ℕ) (value : Number) → Own value.refusal → Sound (setting_with r number line which start end value)
    unfolding setting_with with_settings
    setting-with which start end value is = owned r start end 0 value.refusal is (kept refl sound)

    setting-to : (which start end : ℕ) → Sound (setting_to r number line which start end)
    unfolding setting_to
    setting-to which start end = setting-with which start end (number_of (part_of line start end)) (number-own (part_of line start end))

    no-more : (words : Cells) → Sound (no_more r number line words)
    unfolding no_more
    no-more words = pick (is_refused r || leb words.count 2) sound (failing r (start_of words 2) (end_of words 2) 32 0 (lit≤ tt) (lit≤ tt))

    share-after : (words : Cells) → Sound (share_after r number line words)
    unfolding share_after
    share-after words = pick (is_refused r) sound (setting-to 3 (start_of words 1) (end_of words 1))

    -- columns
    column-as : (start end column : ℕ) → Sound (column_as r number line start end column)
    unfolding column_as with_layout
    column-as start end column =
        pick (eqb column 0) (failing r start end 38 0 (lit≤ tt) (lit≤ tt)) (pick (has_column r.layout column) (failing r start end 39 column (lit≤ tt) (lit≤ tt)) (kept refl sound))

    column-to : (start end : ℕ) → Sound (column_to r number line start end)
    unfolding column_to
    column-to start end = pick (is_refused r) sound (pick (eqb start end) (failing r start end 35 0 (lit≤ tt) (lit≤ tt)) (column-as start end (column_of (part_of line start end))))

    header-ended : Sound (header_ended r number line)
    unfolding header_ended
    header-ended = pick (is_refused r || eqb (missing_column r.layout) 0) sound (missing r 40 (missing_column r.layout) (lit≤ tt) (lit≤ tt))

    -- tasks
    number-as : (column start end : ℕ) (value : Number) → Own value.refusal → Sound (number_as r number line column start end value)
    unfolding number_as with_task
    number-as column start end value is = owned r start end column value.refusal is (kept refl sound)

    name-as : (start end : ℕ) (named : Named) → Own named.refusal → Sound (name_as r number line start end named)
    unfolding name_as with_task
    name-as start end named is = owned r start end 7 named.refusal is (kept refl sound)

    cell_as_lem : (column start end : ℕ) → Sound (cell_as r number line column start end)
    unfolding cell_as
    cell_as_lem column start end =
        pick (eqb start end) (failing r start end 35 column (lit≤ tt) (lit≤ tt))
        (pick (eqb column 7) (name-as start end (name_of (part_of line start end)) (name-own (part_of line start end))) (number-as column start end (number_of (part_of line start end)) (number-own (part_of line start end))))

    cell-to : (place start end : ℕ) → Sound (cell_to r number line place start end)
    unfolding cell_to
    cell-to place start end =
        pick (is_refused r) sound (pick (leb r.layout.width place) (failing r start end 32 0 (lit≤ tt) (lit≤ tt)) (cell_as_lem (field_at r.layout place) start end))

    with_read_lem : Sound (with_read r)
    unfolding with_read
    with_read_lem = pick (leb 8 r.count) sound (kept refl sound)

    task-ended : (count : ℕ) → Sound (task_ended r number line count)
    unfolding task_ended
    task-ended count = pick (is_refused r) sound (pick (ltb count r.layout.width) (missing r 33 (field_at r.layout count) (lit≤ tt) (lit≤ tt)) with_read_lem)

    cell-read : (is_header : Bool) (place start end : ℕ) → Sound (cell_read is_header r number line place start end)
    unfolding cell_read
    cell-read is_header place start end = pick is_header (column-to start end) (cell-to place start end)

  -- a setting by its name, and two numbers
  named-read : (r : Reading) → Sound r → (words : Cells) (which : ℕ) → Sound (named_read r number line words which)
  unfolding named_read
  named-read r sound words which =
      pick (is_given r.settings which) (failing r (start_of words 0) (end_of words 0) 44 0 (lit≤ tt) (lit≤ tt))
      (no-more (setting_to r number line which (start_of words 1) (end_of words 1)) (setting-to r sound which (start_of words 1) (end_of words 1)) words)

  pair_read_lem : (r : Reading) → Sound r → (words : Cells) → Sound (pair_read r number line words)
  unfolding pair_read
  pair_read_lem r sound words = share-after (setting_to r number line 2 (start_of words 0) (end_of words 0)) (setting-to r sound 2 (start_of words 0) (end_of words 0)) words

  -- the cells of a line, and the lines
  cells-read : (is_header : Bool) (r : Reading) → Sound r → (cells : Cells) (n : ℕ) → Sound (cells_read is_header r number line cells n)
  unfolding cells_read
  cells-read is_header r sound cells zero = sound
  cells-read is_header r sound cells (suc n) = cell-read (cells_read is_header r number line cells n) (cells-read is_header r sound cells n) is_header n (start_of cells n) (end_of cells n)

  header_read_lem : (r : Reading) → Sound r → (cells : Cells) → Sound (header_read r number line cells)
  unfolding header_read
  header_read_lem r sound cells = header-ended (cells_read true r number line cells (min cells.count 8)) (cells-read true r sound cells (min cells.count 8))

  task-with : (r : Reading) → Sound r → (cells : Cells) → Sound (task_with r number line cells)
  unfolding task_with
  task-with r sound cells =
      pick (leb 8 r.count) (failing r (start_of cells 0) (end_of cells 0) 34 0 (lit≤ tt) (lit≤ tt))
      (task-ended (cells_read false r number line cells (min cells.count 8)) (cells-read false r sound cells (min cells.count 8)) cells.count)

  task-read : (r : Reading) → Sound r → Sound (task_read r number line)
  unfolding task_read with_task
  task-read r sound = task-with (with_task r (task_at number)) (kept refl sound) (cells_of r.layout.separator line)

  columns-read : (r : Reading) → Sound r → (words : Cells) (separator : ℕ) → Sound (columns_read r number line words separator)
  unfolding columns_read with_layout
  columns-read r sound words separator =
      pick (begins_number (cell_of line words 0)) (task-read (with_layout r (plain_layout separator)) (kept refl sound)) (header_read_lem (with_layout r (named_layout separator)) (kept refl sound) (cells_of separator line))

  first_read_lem : (r : Reading) → Sound r → (words : Cells) → Sound (first_read r number line words)
  unfolding first_read
  first_read_lem r sound words = pick (is_given r.settings 1) (columns-read r sound words (separator_of line)) (failing r (start_of words 0) (end_of words 0) 33 0 (lit≤ tt) (lit≤ tt))

  early-read : (r : Reading) → Sound r → (words : Cells) → Sound (early_read r number line words)
  unfolding early_read
  early-read r sound words =
      pick (is_lone r line words) (setting-to r sound 1 (start_of words 0) (end_of words 0))
      (pick (is_named_line line words) (named-read r sound words (setting_of (cell_of line words 0))) (pick (is_pair r line words) (pair_read_lem r sound words) (first_read_lem r sound words)))

  words-read : (r : Reading) → Sound r → (words : Cells) → Sound (words_read r number line words)
  unfolding words_read
  words-read r sound words = pick (is_refused r || eqb words.count 0) sound (pick (eqb r.layout.separator 0) (early-read r sound words) (task-read r sound))

  line_read_lem : (r : Reading) → Sound r → Sound (line_read r number line)
  unfolding line_read
  line_read_lem r sound = words-read r sound (cells_of loose line)

  content-taken : (r : Reading) → Sound r → (over : Bool) → Sound (content_taken r number line over)
  unfolding content_taken
  content-taken r sound over = pick (is_refused r) sound (pick over (missing r 43 0 (lit≤ tt) (lit≤ tt)) (line_read_lem r sound))

  -- at the text's end
  pub ended-sound : (r : Reading) → Sound r → Sound (ended_at r number line)
  unfolding ended_at
  ended-sound r sound = pick (is_refused r || is_given r.settings 1) sound (missing r 33 0 (lit≤ tt) (lit≤ tt))

-- a further line
pub taken-sound : (number : ℕ) → 1 ≤ number → (line : List ℕ) (over : Bool) (r : Reading) → Sound r → Sound (line_taken r number line over)
unfolding line_taken
taken-sound number some line over r sound = content-taken number some (unmarked number line) r sound over
