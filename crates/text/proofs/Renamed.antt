-- The text of a table with its tasks' names, read: the table's numbers and the names. Assumes nothing.
use Prim.Native.Nat.{ℕ, zero, suc, ◌-◌, ◌≤◌, ◌<◌}
use mathlib.Core.Path.{◌≡◌, refl, sym, ap, ◌∙◌, subst}
use mathlib.Core.Bool.{true, false}
use mathlib.Core.Logic.{inl}
use mathlib.Core.List.{List, [], ◌∷◌, ◌++◌, append_assoc}
use native.Mathlib.Omega.{arith}
use borrow.Author.Tests.{ne_eqb}
use lib.Dec.{eqb}
use lib.ListN.{length, get_or, take, drop, set, replicate, length-append}
use Rattle.places.specs.Places.{joined_below}
use Rattle.cells.specs.declared.Name.{Name}
use Rattle.cells.specs.declared.Named.{Named}
use Rattle.cells.specs.Kinds.{is_blank, is_loose, separates, runs, is_digit, loose, lower, is_gap, opens, closes}
use Rattle.cells.specs.Cells.{turned, cells_of, has_outside, separator_of}
use Rattle.cells.specs.Numbers.{is_quoted, quotes_refusal, content_of}
use Rattle.cells.specs.Names.{same, unknown_label, with_stage, with_letter, with_byte, label_from, label_of, is_word, is_named, column_named, column_of}
use Rattle.cells.specs.Raw.{with_first, raw_cells, is_none, after_blanks, before_blanks, trimmed, trimmed_all, kept, cells_in}
use Rattle.cells.proofs.Found.{split-counted}
use Rattle.cells.proofs.Words.{All, one, all-joined, all-wider, all_alike, cells-run}
use Rattle.sheet.specs.declared.Record.{Record}
use Rattle.sheet.specs.declared.Table.{Table}
use Rattle.sheet.specs.Layout.{record_at}
use Rattle.sheet.proofs.Spelled.{Sized}
use Rattle.lines.specs.declared.Layout.{Layout}
use Rattle.lines.specs.declared.Task.{Task}
use Rattle.lines.specs.declared.Reading.{Reading}
use Rattle.lines.specs.Troubles.{after, no_reading, task_at, with_task, with_layout, is_refused}
use Rattle.lines.specs.Settings.{is_given, begins_number}
use Rattle.lines.specs.Columns.{named_layout, has_column, with_column, missing_column}
use Rattle.lines.specs.Tasks.{field_at, numbered, filled_task, with_read}
use Rattle.lines.specs.Lines.{header_read, task_read, words_read, line_read}
use Rattle.lines.specs.Told.{Good, told, told_below, layout_below}
use Rattle.lines.proofs.Told.{Heads, header-line, task-line}
use Rattle.lines.proofs.Early.{header_read_lem}
use Rattle.report.specs.Words.{newline}
use Rattle.report.specs.Decimal.{decimal}
use Rattle.text.specs.Scaling.{task_of}
use Rattle.text.specs.Lines.{said}
use Rattle.text.specs.Shown.{column_at, cell_text, row_text, task_numbers}
use Rattle.text.specs.Named.{quoted_name, column_names, named_row, name_at, named_line, named_text}
use Rattle.text.proofs.Long.{Narrow, task-narrow, length-cells}
use Rattle.text.proofs.Inked.{long-quoted}
use Rattle.text.proofs.Called.{doubled, name-put, Proper, name_back}
use Rattle.text.proofs.Quoted.{cells-quoted, said-quoted, doubled-all, control-ends, words-some}
use Rattle.text.proofs.Spelt.{words_below, loosely, blankly, blanks-run, cell-blank, row-cells, row-without, decimal-good}
use Rattle.text.proofs.Regained.{without, without_all, said_plain, read_plain, Goes, goes-joined, goes-nothing, goes-line}
use Rattle.text.proofs.Back.{Has, Reaches, header-reach, value-is, task-added, layout-kept, tasks-kept, more-told, laid-has, laid-is}

-- the header that names the columns
abbrev header : List ℕ
header = take 116 column_names

abbrev headings : List (List ℕ)
headings =
    (116 ∷ 97 ∷ 115 ∷ 107 ∷ []) ∷ (112 ∷ 114 ∷ 105 ∷ 111 ∷ 114 ∷ 105 ∷ 116 ∷ 121 ∷ []) ∷ (102 ∷ 97 ∷ 117 ∷ 108 ∷ 116 ∷ []) ∷ (99 ∷ 111 ∷ 115 ∷ 116 ∷ []) ∷ (98 ∷ 97 ∷ 99 ∷ 107 ∷ 117 ∷ 112 ∷ []) ∷ (100 ∷ 101 ∷ 97 ∷ 100 ∷ 108 ∷ 105 ∷ 110 ∷ 101 ∷ []) ∷ (112 ∷ 101 ∷ 114 ∷ 105 ∷ 111 ∷ 100 ∷ []) ∷ []

-- the columns that it names
abbrev pub named_columns : Layout
named_columns = record { separator = 32; width = 7; columns = 7 ∷ 1 ∷ 2 ∷ 3 ∷ 4 ∷ 5 ∷ 6 ∷ 0 ∷ []; given = false ∷ true ∷ true ∷ true ∷ true ∷ true ∷ true ∷ true ∷ [] }

header-loose : cells_in loose header ≡ headings
unfolding cells_in raw_cells with_first separates is_loose is_blank turned trimmed_all trimmed after_blanks before_blanks kept is_none runs
header-loose = refl

header-cells : cells_in 32 header ≡ headings
unfolding cells_in raw_cells with_first separates is_blank turned trimmed_all trimmed after_blanks before_blanks kept is_none runs
header-cells = refl

header-separator : separator_of header ≡ 32
unfolding separator_of has_outside turned
header-separator = refl

-- the columns of its first names
unfoldable laid_below : ℕ → Layout
laid_below n = layout_below (named_layout 32) (λ j. column_of (get_or headings j [])) n

laid-all : laid_below 7 ≡ named_columns
unfolding laid_below layout_below with_column is_blank lower is_gap opens closes is_quoted quotes_refusal content_of same unknown_label with_stage with_letter with_byte label_from label_of is_word is_named column_named column_of
laid-all = refl

header-heads : (k : ℕ) → k < 7 → Heads (named_layout 32) (λ j. get_or headings j []) k
unfolding layout_below with_column has_column is_none is_blank lower is_gap opens closes is_quoted quotes_refusal content_of same unknown_label with_stage with_letter with_byte label_from label_of is_word is_named column_named column_of
header-heads zero h = record { some = refl; known = refl; once = refl }
header-heads (suc zero) h = record { some = refl; known = refl; once = refl }
header-heads (suc (suc zero)) h = record { some = refl; known = refl; once = refl }
header-heads (suc (suc (suc zero))) h = record { some = refl; known = refl; once = refl }
header-heads (suc (suc (suc (suc zero)))) h = record { some = refl; known = refl; once = refl }
header-heads (suc (suc (suc (suc (suc zero))))) h = record { some = refl; known = refl; once = refl }
header-heads (suc (suc (suc (suc (suc (suc zero)))))) h = record { some = refl; known = refl; once = refl }
header-heads (suc (suc (suc (suc (suc (suc (suc k))))))) h = absurd (omega arith)

header-whole : missing_column (laid_below 7) ≡ 0
unfolding missing_column has_column
header-whole = ap missing_column laid-all

module _ (r : Reading) (number : ℕ) (clear : is_refused r ≡ false) (unset : r.layout.separator ≡ 0) (given : is_given r.settings 1 ≡ true) where
  header_is : line_read r number header ≡ with_layout r named_columns
  unfolding with_layout is_refused laid_below begins_number is_digit
  header_is =
      header_read_lem r number header clear (116 ∷ 97 ∷ 115 ∷ 107 ∷ []) (drop 1 headings) header-loose (omega arith) unset given (omega arith) refl refl
      ∙ ap (λ (s : ℕ). header_read (with_layout r (named_layout s)) number header (cells_of s header)) header-separator
      ∙ header-line (with_layout r (named_layout 32)) number header 32 clear (subst (λ (ws : List (List ℕ)). length ws ≤ 8) (sym header-cells) (omega arith))
      (subst (λ (ws : List (List ℕ)). (k : ℕ) → k < length ws → Heads (named_layout 32) (λ j. get_or ws j []) k) (sym header-cells) header-heads)
      (subst (λ (ws : List (List ℕ)). missing_column (layout_below (named_layout 32) (λ j. column_of (get_or ws j [])) (length ws)) ≡ 0) (sym header-cells) header-whole)
      ∙ ap (λ (ws : List (List ℕ)). with_layout r (layout_below (named_layout 32) (λ j. column_of (get_or ws j [])) (length ws))) header-cells
      ∙ ap (with_layout r) laid-all

  header-goes : Goes r number column_names (with_layout r named_columns) (after number)
  unfolding without
  header-goes =
      subst (λ (u : Reading). Goes r number column_names u (after number))
      (read_plain r number header clear (said_plain (without_all 35 header refl) false) refl (omega arith) ∙ header_is)
      (goes-line r number (without_all 10 header refl))

-- a line with a word is a task's once there are columns
later-some : (r : Reading) (number : ℕ) (line : List ℕ) → is_refused r ≡ false → eqb r.layout.separator 0 ≡ false → 0 < length (cells_in loose line) → line_read r number line ≡ task_read r number line
unfolding line_read words_read
later-some r number line clear set some = simp (clear, ne_eqb (cells_of loose line).count 0 (λ e. omega (arith, split-counted loose line)), set)

-- a row begins with a blank
row-begins : (numbers : List ℕ) → Narrow numbers → (more : List ℕ) × (joined_below (cell_text numbers) 6 ≡ 32 ∷ more)
unfolding joined_below
row-begins numbers narrow =
    let cell = cell-blank numbers narrow 0 (omega arith) in
    let f = cell_text numbers in
    (replicate cell.0 32 ++ decimal (get_or numbers 0 0) ++ f 1 ++ f 2 ++ f 3 ++ f 4 ++ f 5, ap (λ (l : List ℕ). l ++ f 1 ++ f 2 ++ f 3 ++ f 4 ++ f 5) cell.1)

blank-first : (m : ℕ) (more : List ℕ) → replicate m 32 ++ (32 ∷ more) ≡ 32 ∷ replicate m 32 ++ more
blank-first zero more = refl
blank-first (suc m) more = ap (λ (l : List ℕ). 32 ∷ l) (blank-first m more)

-- a task's line
module _ (name : Name) (proper : Proper name) (task : Record) (sized : Sized task) where
  abbrev numbers : List ℕ
  numbers = task_numbers task

  narrow : Narrow (task_numbers task)
  narrow = task-narrow task sized

  abbrev letters : List ℕ
  letters = take name.length name.bytes

  abbrev word : List ℕ
  word = 34 ∷ doubled letters ++ (34 ∷ [])

  abbrev row : List ℕ
  row = joined_below (cell_text (task_numbers task)) 6

  abbrev gap : List ℕ
  gap = replicate (66 - length word) 32

  -- the word in quotes, blanks, and the numbers
  abbrev line : List ℕ
  line = 34 ∷ doubled letters ++ (34 ∷ gap ++ row)

  line-is : (quoted_name name).bytes ++ row ≡ line
  line-is =
      ap (λ (l : List ℕ). l ++ row) (name-put name proper.few proper.long)
      ∙ append_assoc word gap row ∙ append_assoc (34 ∷ doubled letters) (34 ∷ []) (gap ++ row)

  line-long : length line ≤ 512
  unfolding column_at
  line-long = omega (arith, ap length line-is, length-append (quoted_name name).bytes row, long-quoted name, length-cells (task_numbers task) narrow 6 (omega arith))

  -- its bytes
  line-ends : All (λ byte. eqb byte 10 ≡ false) line
  line-ends =
      one refl
      (all-joined (doubled-all refl (all-wider control-ends proper.plain))
      (one refl (all-joined (all_alike (66 - length word) 32 refl) (row-without (task_numbers task) 6 10 (λ e. omega arith) (inl (omega arith))))))

  line-said : said false line ≡ line
  line-said = said-quoted letters (gap ++ row) (said_plain (all-joined (all_alike (66 - length word) 32 refl) (row-without (task_numbers task) 6 35 (λ e. omega arith) (inl (omega arith)))) false)

  line-goes : (r : Reading) (number : ℕ) → is_refused r ≡ false → Goes r number (named_row name task) (line_read r number line) (after number)
  unfolding named_row row_text
  line-goes r number clear =
      subst (λ (l : List ℕ). Goes r number l (line_read r number line) (after number)) (ap (λ (l : List ℕ). l ++ newline) (sym line-is) ∙ append_assoc (quoted_name name).bytes row newline)
      (subst (λ (u : Reading). Goes r number (line ++ newline) u (after number)) (read_plain r number line clear line-said refl line-long) (goes-line r number line-ends))

  -- its cells
  abbrev words : List (List ℕ)
  words = word ∷ decimal task.priority ∷ decimal task.fault_priority ∷ decimal task.cost ∷ decimal task.backup ∷ decimal task.deadline ∷ decimal task.period ∷ []

  line-cells : cells_in 32 line ≡ words
  unfolding words_below joined_below task_numbers separates is_blank runs
  line-cells =
      let begins = row-begins (task_numbers task) narrow in
      let more = begins.0 in
      ap (λ (l : List ℕ). cells_in 32 (34 ∷ doubled letters ++ (34 ∷ l))) (ap (λ (l : List ℕ). gap ++ l) begins.1 ∙ blank-first (66 - length word) more)
      ∙ cells-quoted letters (gap ++ more)
      ∙ ap (λ (ws : List (List ℕ)). word ∷ ws)
      (blanks-run blankly (66 - length word) more ∙ sym (cells-run 32 32 refl refl more) ∙ ap (cells_in 32) (sym begins.1) ∙ row-cells blankly (task_numbers task) narrow 5 (omega arith))

  line-some : 0 < length (cells_in loose line)
  unfolding words_below joined_below
  line-some =
      subst (λ (l : List ℕ). 0 < length (cells_in loose l)) line-is
      (words-some (quoted_name name).bytes row (subst (λ (ws : List (List ℕ)). 0 < length ws) (sym (row-cells loosely (task_numbers task) narrow 5 (omega arith))) (omega arith)))

  words-good : (k : ℕ) → k < 7 → Good (field_at named_columns k) (get_or words k [])
  unfolding field_at is_none
  words-good zero h = record { some = refl; fine = ap (λ (n : Named). n.refusal) (name_back name proper) }
  words-good (suc zero) h = decimal-good 1 task.priority (omega (arith, sized.priority)) refl
  words-good (suc (suc zero)) h = decimal-good 2 task.fault_priority (omega (arith, sized.fault)) refl
  words-good (suc (suc (suc zero))) h = decimal-good 3 task.cost sized.cost refl
  words-good (suc (suc (suc (suc zero)))) h = decimal-good 4 task.backup sized.backup refl
  words-good (suc (suc (suc (suc (suc zero))))) h = decimal-good 5 task.deadline sized.deadline refl
  words-good (suc (suc (suc (suc (suc (suc zero)))))) h = decimal-good 6 task.period sized.period refl
  words-good (suc (suc (suc (suc (suc (suc (suc k))))))) h = absurd (omega arith)

  -- the task that it tells
  task_told : ℕ → Task
  task_told number = told_below (task_at number) (field_at named_columns) (λ k. get_or words k []) 7

  told-numbers : (number : ℕ) → (task_told number).numbers ≡ task_numbers task
  unfolding task_told told_below told numbered field_at task_numbers
  told-numbers number =
      simp
      (value-is task.priority (omega (arith, sized.priority)), value-is task.fault_priority (omega (arith, sized.fault)), value-is task.cost sized.cost, value-is task.backup sized.backup, value-is task.deadline sized.deadline, value-is task.period sized.period)

  told-name : (number : ℕ) → (task_told number).name ≡ name
  unfolding task_told told_below told numbered field_at
  told-name number = ap (λ (n : Named). n.name) (name_back name proper)

  task-read : (r : Reading) (number : ℕ) → is_refused r ≡ false → r.count < 8 → line_read (with_layout r named_columns) number line ≡ with_read (with_task (with_layout r named_columns) (task_told number))
  unfolding task_told with_layout is_refused
  task-read r number clear few =
      later-some (with_layout r named_columns) number line clear refl line-some
      ∙ task-line (with_layout r named_columns) number line clear few (omega arith) (ap length line-cells) (λ k h. subst (λ (ws : List (List ℕ)). Good (field_at named_columns k) (get_or ws k [])) (sym line-cells) (words-good k h))
      ∙ ap (λ (ws : List (List ℕ)). with_read (with_task (with_layout r named_columns) (told_below (task_at number) (field_at named_columns) (λ k. get_or ws k []) 7))) line-cells

-- what a text with names reaches: the numbers, and the names
pub record ReachesNamed (r : Reading) (number : ℕ) (text : List ℕ) (interval round share : ℕ) (numbers : ℕ → List ℕ) (names : ℕ → Name) (count : ℕ) : Type 0 where
  pub reach : Reaches (λ l. l ≡ named_columns) r number text interval round share numbers count
  pub called : (k : ℕ) → k < count → (task_of reach.reading.tasks k).name ≡ names k

-- the lines of the tasks, one after the other
module _ (records : List Record) (names : List Name) (r : Reading) (number interval round share : ℕ) (start : Has r interval round share (λ k. task_numbers (record_at records k)) 0) (laid_out : r.layout ≡ named_columns) where
  lines-reach : (k : ℕ) → k ≤ 8 → ((j : ℕ) → j < k → Sized (record_at records j)) → ((j : ℕ) → j < k → Proper (name_at names j))
      → ReachesNamed r number (joined_below (named_line records names) k) interval round share (λ k. task_numbers (record_at records k)) (name_at names) k
  unfolding joined_below named_line with_layout has_column filled_task
  lines-reach zero most sized proper = record { reach = record { reading = r; next = number; goes = goes-nothing r number; has = start; columns = laid_out }; called = λ k h. absurd (omega arith) }
  lines-reach (suc k) most sized proper =
      let earlier = lines-reach k (omega arith) (λ j h. sized j (omega arith)) (λ j h. proper j (omega arith)) in
      let before = earlier.reach in
      let task = record_at records k in
      let name = name_at names k in
      let fits = sized k (omega arith) in
      let good = proper k (omega arith) in
      let u = before.reading in
      let n = before.next in
      let told = task_told name good task fits n in
      let all : ℕ → List ℕ = λ k. task_numbers (record_at records k) in
      let numbers = told-numbers name good task fits n in
      let read : line_read u n (line name good task fits) ≡ with_read (with_task (with_layout u named_columns) told) =
      ap (λ (l : Layout). line_read (with_layout u l) n (line name good task fits)) before.columns ∙ task-read name good task fits u n before.has.clear (omega (arith, before.has.tasks)) in
      record {
        reach =
            record {
              reading = with_read (with_task (with_layout u named_columns) told);
              next = after n;
              goes = goes-joined before.goes (subst (λ (v : Reading). Goes u n (named_row name task) v (after n)) read (line-goes name good task fits u n before.has.clear));
              has = task-added u named_columns told refl refl interval round share all k (omega arith) before.has numbers;
              columns = layout-kept u named_columns told refl refl interval round share all k (omega arith) before.has numbers;
            };
        called = λ j h.
            ap (λ (ts : List Task). (task_of ts j).name) (tasks-kept u named_columns told refl refl interval round share all k (omega arith) before.has numbers)
            ∙ more-told u named_columns told refl refl (λ t. t.name) (name_at names) k before.has.tasks (omega arith) before.has.room earlier.called (told-name name good task fits n) j h;
      }

-- the whole text of a table whose numbers have their widths, with names that can be read
pub named-reach : (t : Table) (names : List Name) → t.count ≤ 8 → ((place : ℕ) → place < t.count → Sized (record_at t.records place)) → ((place : ℕ) → place < t.count → Proper (name_at names place))
    → t.interval < 65536 → t.round < 65536 → t.share < 65536
    → ReachesNamed no_reading 1 (named_text t names) t.interval t.round t.share (λ k. task_numbers (record_at t.records k)) (name_at names) t.count
unfolding named_text
named-reach t names few sized proper narrow narrow' narrow'' =
    let before = header-reach t narrow narrow' narrow'' (λ k. task_numbers (record_at t.records k)) in
    let u = before.reading in
    let headed = goes-joined before.goes (header-goes u before.next before.has.clear before.columns before.has.given) in
    let all = lines-reach t.records names (with_layout u named_columns) (after before.next) t.interval t.round t.share (laid-has u named_columns before.has) (laid-is u named_columns) t.count few sized proper in
    let reach = all.reach in
    record { reach = record { reading = reach.reading; next = reach.next; goes = goes-joined headed reach.goes; has = reach.has; columns = reach.columns }; called = all.called }
