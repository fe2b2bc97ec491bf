-- A line read under another number does the same but for that number. Assumes nothing.
use Prim.Native.Nat.{ℕ, zero, suc, ◌+◌, ◌-◌, min}
use mathlib.Core.Path.{◌≡◌, refl, sym, ap, ap₂, ◌∙◌, subst}
use mathlib.Core.Bool.{Bool, true, false, cond, not, ◌&&◌, ◌||◌}
use mathlib.Core.List.{List, [], ◌∷◌}
use lib.Dec.{eqb, ltb, leb}
use lib.ListN.{length, set}
use Rattle.cells.specs.declared.Cells.{Cells}
use Rattle.cells.specs.declared.Number.{Number}
use Rattle.cells.specs.declared.Name.{Name}
use Rattle.cells.specs.declared.Named.{Named}
use Rattle.cells.specs.Kinds.{loose}
use Rattle.cells.specs.Cells.{part_of, cells_of, separator_of}
use Rattle.cells.specs.Numbers.{number_of}
use Rattle.cells.specs.Names.{setting_of, column_of, name_of}
use Rattle.lines.specs.declared.Trouble.{Trouble}
use Rattle.lines.specs.declared.Layout.{Layout}
use Rattle.lines.specs.declared.Settings.{Settings}
use Rattle.lines.specs.declared.Task.{Task}
use Rattle.lines.specs.declared.Reading.{Reading}
use Rattle.lines.specs.declared.Figures.{Figures}
use Rattle.lines.specs.Troubles.{after, excerpt_of, task_at, no_trouble, start_of, end_of, cell_of, with_trouble, with_settings, with_layout, with_task, is_refused, fails, fails_at_end}
use Rattle.lines.specs.Settings.{is_given, with_setting, begins_number, setting_with, setting_to, is_lone, is_named_line, are_first, is_open, is_pair, no_more, named_read, share_after, pair_read}
use Rattle.lines.specs.Columns.{has_column, with_column, column_as, column_to, missing_column, header_ended}
use Rattle.lines.specs.Tasks.{field_at, numbered, number_as, name_as, cell_as, cell_to, with_fault, with_deadline, filled_task, with_read, task_ended}
use Rattle.lines.specs.Lines.{cell_read, cells_read, header_read, task_with, task_read, columns_read, first_read, early_read, words_read, line_read}
use Rattle.lines.specs.Answers.{unmarked, content_taken, line_taken, figures_of, no_figures, ended_at, answered, answer_at}
use Rattle.lines.specs.Moved.{placeless, lineless, lineless_all, unlined_figures, unlined_answer}

-- two tasks that are one but for their lines
pub record Same (a b : Task) : Type 0 where
  pub numbers : a.numbers ≡ b.numbers
  pub name : a.name ≡ b.name

-- two readings that are one but for the lines
pub record Alike (r u : Reading) : Type 0 where
  pub trouble : placeless r.trouble ≡ placeless u.trouble
  pub settings : r.settings ≡ u.settings
  pub layout : r.layout ≡ u.layout
  pub task : Same r.task u.task
  pub count : r.count ≡ u.count
  pub tasks : lineless_all r.tasks ≡ lineless_all u.tasks

pick-as : {a b c d : Reading} (t : Bool) → Alike a c → Alike b d → Alike (cond t a b) (cond t c d)
pick-as true p q = p
pick-as false p q = q

pick : {a b c d : Reading} {t v : Bool} → t ≡ v → Alike a c → Alike b d → Alike (cond t a b) (cond v c d)
pick {a} {b} {c} {d} {t} e p q = subst (λ (w : Bool). Alike (cond t a b) (cond w c d)) e (pick-as t p q)

set-lineless : (tasks : List Task) (k : ℕ) (t : Task) → lineless_all (set tasks k t) ≡ set (lineless_all tasks) k (lineless t)
unfolding lineless_all
set-lineless [] k t = refl
set-lineless (x ∷ tasks) zero t = refl
set-lineless (x ∷ tasks) (suc k) t = ap (λ (l : List Task). lineless x ∷ l) (set-lineless tasks k t)

lineless-same : {a b : Task} → Same a b → lineless a ≡ lineless b
unfolding lineless
lineless-same e = ap₂ (λ (l : List ℕ) (n : Name). record { line = 0; numbers = l; name = n }) e.numbers e.name

numbered-same : (value : ℕ) {a b : ℕ} → a ≡ b → {x y : Task} → Same x y → Same (numbered x a value) (numbered y b value)
unfolding numbered
numbered-same value {a} e {x} {y} same = subst (λ (c : ℕ). Same (numbered x a value) (numbered y c value)) e (go (eqb a 0 || ltb 6 a))
  where
    go : (b : Bool) → Same (cond b x (record { line = x.line; numbers = set x.numbers (a - 1) value; name = x.name })) (cond b y (record { line = y.line; numbers = set y.numbers (a - 1) value; name = y.name }))
    go true = same
    go false = record { numbers = ap (λ (l : List ℕ). set l (a - 1) value) same.numbers; name = same.name }

filled-same : {l m : Layout} → l ≡ m → {x y : Task} → Same x y → Same (filled_task l x) (filled_task m y)
unfolding filled_task
filled-same e same = record { numbers = ap₂ (λ (k : Layout) (numbers : List ℕ). with_deadline k (with_fault k numbers)) e same.numbers; name = same.name }

module _ {r u : Reading} (alike : Alike r u) where
  refused-alike : is_refused r ≡ is_refused u
  unfolding is_refused placeless
  refused-alike = ap (λ (t : Trouble). not (eqb t.refusal 0)) alike.trouble

  -- with one part anew
  settings-anew : {a b : Settings} → a ≡ b → Alike (with_settings r a) (with_settings u b)
  unfolding with_settings
  settings-anew e = record { trouble = alike.trouble; settings = e; layout = alike.layout; task = alike.task; count = alike.count; tasks = alike.tasks }

  layout-anew : {a b : Layout} → a ≡ b → Alike (with_layout r a) (with_layout u b)
  unfolding with_layout
  layout-anew e = record { trouble = alike.trouble; settings = alike.settings; layout = e; task = alike.task; count = alike.count; tasks = alike.tasks }

  task-anew : {a b : Task} → Same a b → Alike (with_task r a) (with_task u b)
  unfolding with_task
  task-anew e = record { trouble = alike.trouble; settings = alike.settings; layout = alike.layout; task = e; count = alike.count; tasks = alike.tasks }

  module _ (n m : ℕ) (line : List ℕ) where
    failing : (start end refusal field : ℕ) → Alike (fails r n line start end refusal field) (fails u m line start end refusal field)
    unfolding fails with_trouble placeless
    failing start end refusal field =
        record {
          trouble = ap (λ (name : Name). record { refusal = refusal; line = 0; column = after start; field = field; excerpt = excerpt_of (part_of line start end); name = name }) alike.task.name;
          settings = alike.settings;
          layout = alike.layout;
          task = alike.task;
          count = alike.count;
          tasks = alike.tasks;
        }

    failing-as : (start end refusal : ℕ) {a b : ℕ} → a ≡ b → Alike (fails r n line start end refusal a) (fails u m line start end refusal b)
    failing-as start end refusal {a} e = subst (λ (f : ℕ). Alike (fails r n line start end refusal a) (fails u m line start end refusal f)) e (failing start end refusal a)

    missing : (refusal : ℕ) {a b : ℕ} → a ≡ b → Alike (fails_at_end r n line refusal a) (fails_at_end u m line refusal b)
    unfolding fails_at_end
    missing refusal e = failing-as (length line) (length line) refusal e

    -- settings
    setting-with : (which start end : ℕ) (value : Number) → Alike (setting_with r n line which start end value) (setting_with u m line which start end value)
    unfolding setting_with
    setting-with which start end value = pick-as (eqb value.refusal 0) (settings-anew (ap (λ (s : Settings). with_setting s which value.value) alike.settings)) (failing start end value.refusal 0)

    setting-to : (which start end : ℕ) → Alike (setting_to r n line which start end) (setting_to u m line which start end)
    unfolding setting_to
    setting-to which start end = setting-with which start end (number_of (part_of line start end))

    no-more : (words : Cells) → Alike (no_more r n line words) (no_more u m line words)
    unfolding no_more
    no-more words = pick (ap (λ (b : Bool). b || leb words.count 2) refused-alike) alike (failing (start_of words 2) (end_of words 2) 32 0)

    share-after : (words : Cells) → Alike (share_after r n line words) (share_after u m line words)
    unfolding share_after
    share-after words = pick refused-alike alike (setting-to 3 (start_of words 1) (end_of words 1))

    -- columns
    column-as : (start end column : ℕ) → Alike (column_as r n line start end column) (column_as u m line start end column)
    unfolding column_as
    column-as start end column =
        pick-as (eqb column 0) (failing start end 38 0) (pick (ap (λ (l : Layout). has_column l column) alike.layout) (failing start end 39 column) (layout-anew (ap (λ (l : Layout). with_column l column) alike.layout)))

    column-to : (start end : ℕ) → Alike (column_to r n line start end) (column_to u m line start end)
    unfolding column_to
    column-to start end = pick refused-alike alike (pick-as (eqb start end) (failing start end 35 0) (column-as start end (column_of (part_of line start end))))

    header-ended : Alike (header_ended r n line) (header_ended u m line)
    unfolding header_ended
    header-ended = pick (ap₂ (λ (b : Bool) (l : Layout). b || eqb (missing_column l) 0) refused-alike alike.layout) alike (missing 40 (ap missing_column alike.layout))

    -- tasks
    number-as : (start end : ℕ) (value : Number) {a b : ℕ} → a ≡ b → Alike (number_as r n line a start end value) (number_as u m line b start end value)
    unfolding number_as
    number-as start end value e = pick-as (eqb value.refusal 0) (task-anew (numbered-same value.value e alike.task)) (failing-as start end value.refusal e)

    name-as : (start end : ℕ) (named : Named) → Alike (name_as r n line start end named) (name_as u m line start end named)
    unfolding name_as
    name-as start end named = pick-as (eqb named.refusal 0) (task-anew {a = record { line = r.task.line; numbers = r.task.numbers; name = named.name }} {b = record { line = u.task.line; numbers = u.task.numbers; name = named.name }} (record { numbers = alike.task.numbers; name = refl })) (failing start end named.refusal 7)

    cell_as_lem : (start end : ℕ) {a b : ℕ} → a ≡ b → Alike (cell_as r n line a start end) (cell_as u m line b start end)
    unfolding cell_as
    cell_as_lem start end e =
        pick-as (eqb start end) (failing-as start end 35 e) (pick (ap (λ (c : ℕ). eqb c 7) e) (name-as start end (name_of (part_of line start end))) (number-as start end (number_of (part_of line start end)) e))

    cell-to : (place start end : ℕ) → Alike (cell_to r n line place start end) (cell_to u m line place start end)
    unfolding cell_to
    cell-to place start end =
        pick refused-alike alike (pick (ap (λ (l : Layout). leb l.width place) alike.layout) (failing start end 32 0) (cell_as_lem start end (ap (λ (l : Layout). field_at l place) alike.layout)))

    with_read_lem : Alike (with_read r) (with_read u)
    unfolding with_read
    with_read_lem =
        pick (ap (leb 8) alike.count) alike
        (record { trouble = alike.trouble; settings = alike.settings; layout = alike.layout; task = alike.task; count = ap (λ (k : ℕ). k + 1) alike.count; tasks = stored })
      where
        stored : lineless_all (set r.tasks r.count (filled_task r.layout r.task)) ≡ lineless_all (set u.tasks u.count (filled_task u.layout u.task))
        stored =
            set-lineless r.tasks r.count (filled_task r.layout r.task) ∙ ap (λ (l : List Task). set l r.count (lineless (filled_task r.layout r.task))) alike.tasks
            ∙ ap₂ (λ (k : ℕ) (t : Task). set (lineless_all u.tasks) k t) alike.count (lineless-same (filled-same alike.layout alike.task)) ∙ sym (set-lineless u.tasks u.count (filled_task u.layout u.task))

    task-ended : (count : ℕ) → Alike (task_ended r n line count) (task_ended u m line count)
    unfolding task_ended
    task-ended count = pick refused-alike alike (pick (ap (λ (l : Layout). ltb count l.width) alike.layout) (missing 33 (ap (λ (l : Layout). field_at l count) alike.layout)) with_read_lem)

    cell-read : (is_header : Bool) (place start end : ℕ) → Alike (cell_read is_header r n line place start end) (cell_read is_header u m line place start end)
    unfolding cell_read
    cell-read is_header place start end = pick-as is_header (column-to start end) (cell-to place start end)

module _ (n m : ℕ) (line : List ℕ) where
  -- a setting by its name, and two numbers
  named-read : {r u : Reading} → Alike r u → (words : Cells) (which : ℕ) → Alike (named_read r n line words which) (named_read u m line words which)
  unfolding named_read
  named-read alike words which =
      pick (ap (λ (s : Settings). is_given s which) alike.settings) (failing alike n m line (start_of words 0) (end_of words 0) 44 0) (no-more (setting-to alike n m line which (start_of words 1) (end_of words 1)) n m line words)

  pair_read_lem : {r u : Reading} → Alike r u → (words : Cells) → Alike (pair_read r n line words) (pair_read u m line words)
  unfolding pair_read
  pair_read_lem alike words = share-after (setting-to alike n m line 2 (start_of words 0) (end_of words 0)) n m line words

  -- the cells of a line, and the lines
  cells-read : (is_header : Bool) {r u : Reading} → Alike r u → (cells : Cells) (k : ℕ) → Alike (cells_read is_header r n line cells k) (cells_read is_header u m line cells k)
  unfolding cells_read
  cells-read is_header alike cells zero = alike
  cells-read is_header alike cells (suc k) = cell-read (cells-read is_header alike cells k) n m line is_header k (start_of cells k) (end_of cells k)

  header_read_lem : {r u : Reading} → Alike r u → (cells : Cells) → Alike (header_read r n line cells) (header_read u m line cells)
  unfolding header_read
  header_read_lem alike cells = header-ended (cells-read true alike cells (min cells.count 8)) n m line

  task-with : {r u : Reading} → Alike r u → (cells : Cells) → Alike (task_with r n line cells) (task_with u m line cells)
  unfolding task_with
  task-with alike cells =
      pick (ap (leb 8) alike.count) (failing alike n m line (start_of cells 0) (end_of cells 0) 34 0) (task-ended (cells-read false alike cells (min cells.count 8)) n m line cells.count)

  task-read : {r u : Reading} → Alike r u → Alike (task_read r n line) (task_read u m line)
  unfolding task_read
  task-read {r} {u} alike =
      subst (λ (s : ℕ). Alike (task_with (with_task r (task_at n)) n line (cells_of r.layout.separator line)) (task_with (with_task u (task_at m)) m line (cells_of s line))) (ap (λ (l : Layout). l.separator) alike.layout)
      (task-with (task-anew alike (record { numbers = refl; name = refl })) (cells_of r.layout.separator line))

  columns-read : {r u : Reading} → Alike r u → (words : Cells) (separator : ℕ) → Alike (columns_read r n line words separator) (columns_read u m line words separator)
  unfolding columns_read
  columns-read alike words separator = pick-as (begins_number (cell_of line words 0)) (task-read (layout-anew alike refl)) (header_read_lem (layout-anew alike refl) (cells_of separator line))

  first_read_lem : {r u : Reading} → Alike r u → (words : Cells) → Alike (first_read r n line words) (first_read u m line words)
  unfolding first_read
  first_read_lem alike words = pick (ap (λ (s : Settings). is_given s 1) alike.settings) (columns-read alike words (separator_of line)) (failing alike n m line (start_of words 0) (end_of words 0) 33 0)

  early-read : {r u : Reading} → Alike r u → (words : Cells) → Alike (early_read r n line words) (early_read u m line words)
  unfolding early_read is_lone is_pair
  early-read alike words =
      pick (ap (λ (s : Settings). eqb words.count 1 && not (is_given s 1) && begins_number (cell_of line words 0)) alike.settings) (setting-to alike n m line 1 (start_of words 0) (end_of words 0))
      (pick-as (is_named_line line words) (named-read alike words (setting_of (cell_of line words 0)))
      (pick (ap (λ (s : Settings). eqb words.count 2 && is_open s && begins_number (cell_of line words 0) && begins_number (cell_of line words 1) && are_first words (cells_of (separator_of line) line)) alike.settings) (pair_read_lem alike words)
      (first_read_lem alike words)))

  words-read : {r u : Reading} → Alike r u → (words : Cells) → Alike (words_read r n line words) (words_read u m line words)
  unfolding words_read
  words-read alike words =
      pick (ap (λ (b : Bool). b || eqb words.count 0) (refused-alike alike)) alike (pick (ap (λ (l : Layout). eqb l.separator 0) alike.layout) (early-read alike words) (task-read alike))

  content-taken : {r u : Reading} → Alike r u → (over : Bool) → Alike (content_taken r n line over) (content_taken u m line over)
  unfolding content_taken line_read
  content-taken alike over = pick (refused-alike alike) alike (pick-as over (missing alike n m line 43 refl) (words-read alike (cells_of loose line)))

  ended : {r u : Reading} → Alike r u → Alike (ended_at r n line) (ended_at u m line)
  unfolding ended_at
  ended alike = pick (ap₂ (λ (b : Bool) (s : Settings). b || is_given s 1) (refused-alike alike) alike.settings) alike (missing alike n m line 33 refl)

-- a line that is not the first is not looked at for a byte order mark
later-line : (number : ℕ) (line : List ℕ) → eqb number 1 ≡ false → unmarked number line ≡ line
unfolding unmarked
later-line number line e = simp e

-- a further line under another number
pub taken-alike : {r u : Reading} → Alike r u → (n m : ℕ) → eqb n 1 ≡ false → eqb m 1 ≡ false → (line : List ℕ) (over : Bool) → Alike (line_taken r n line over) (line_taken u m line over)
unfolding line_taken
taken-alike alike n m e f line over = simp (later-line n line e, later-line m line f) (content-taken n m line alike over)

-- and the answer
figures-alike : {r u : Reading} → Alike r u → unlined_figures (figures_of r) ≡ unlined_figures (figures_of u)
unfolding unlined_figures figures_of
figures-alike alike = cc

answered-alike : {r u : Reading} → Alike r u → unlined_answer (answered r) ≡ unlined_answer (answered u)
unfolding answered unlined_answer
answered-alike {r} {u} alike = ap (λ (b : Bool). unlined_answer (cond b (record { trouble = r.trouble; figures = no_figures }) (record { trouble = no_trouble; figures = figures_of r }))) (refused-alike alike) ∙ go (is_refused u)
  where
    go : (b : Bool)
        → unlined_answer (cond b (record { trouble = r.trouble; figures = no_figures }) (record { trouble = no_trouble; figures = figures_of r }))
        ≡ unlined_answer (cond b (record { trouble = u.trouble; figures = no_figures }) (record { trouble = no_trouble; figures = figures_of u }))
    go true = ap (λ (t : Trouble). record { trouble = t; figures = unlined_figures no_figures }) alike.trouble
    go false = ap (λ (f : Figures). record { trouble = placeless no_trouble; figures = f }) (figures-alike alike)

pub answer-alike : {r u : Reading} → Alike r u → (n m : ℕ) → eqb n 1 ≡ false → eqb m 1 ≡ false → (line : List ℕ) → unlined_answer (answer_at r n line) ≡ unlined_answer (answer_at u m line)
unfolding answer_at
answer-alike alike n m e f line = simp (later-line n line e, later-line m line f) (answered-alike (ended n m line alike))
