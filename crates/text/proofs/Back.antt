-- The text of a table, read: its figures have the table's numbers, and so does their table. Assumes nothing.
use Prim.Native.Nat.{ℕ, zero, suc, ◌≤◌, ◌<◌}
use mathlib.Core.Path.{◌≡◌, refl, sym, ap, ◌∙◌, subst}
use mathlib.Core.Bool.{Bool, true, false, cond}
use mathlib.Core.List.{List, [], ◌∷◌, ◌++◌, append-nil}
use native.Mathlib.Decide.{dec_lt}
use native.Mathlib.Omega.{arith}
use borrow.Author.Tests.{lt-leb, eqb-true}
use lib.Dec.{eqb}
use lib.ListN.{length, get_or, take, drop, set, length-set}
use lib.Seq.{get_or-set_same, get_or-set_other}
use Rattle.places.specs.Places.{joined_below}
use Rattle.places.proofs.Tells.{both_true}
use Rattle.cells.specs.declared.Number.{Number}
use Rattle.cells.specs.Kinds.{loose}
use Rattle.cells.specs.Cells.{cells_of}
use Rattle.cells.specs.Numbers.{number_of}
use Rattle.cells.specs.Raw.{cells_in}
use Rattle.sheet.specs.declared.Record.{Record}
use Rattle.sheet.specs.declared.Table.{Table}
use Rattle.sheet.specs.Layout.{record_at, is_whole}
use Rattle.sheet.proofs.Spelled.{Sized}
use Rattle.lines.specs.declared.Layout.{Layout}
use Rattle.lines.specs.declared.Task.{Task}
use Rattle.lines.specs.declared.Reading.{Reading}
use Rattle.lines.specs.Troubles.{after, no_reading, no_settings, no_trouble, task_at, with_task, with_layout, with_settings, is_refused}
use Rattle.lines.specs.Settings.{is_given, with_setting, is_open}
use Rattle.lines.specs.Columns.{plain_layout, has_column}
use Rattle.lines.specs.Tasks.{field_at, numbered, with_fault, with_deadline, filled_task, with_read}
use Rattle.lines.specs.Lines.{line_read, task_read}
use Rattle.lines.specs.Told.{Good, told, told_below}
use Rattle.lines.specs.Answers.{setting_at, figures_of, ended_at, answered, answer_at}
use Rattle.lines.proofs.Told.{task-line}
use Rattle.lines.proofs.Early.{lone-read, pair_read_lem, plain-read, later-read}
use Rattle.report.specs.Decimal.{decimal}
use Rattle.text.specs.Scaling.{past_task, task_of}
use Rattle.text.specs.Shown.{interval_names, share_names, task_names, cell_text, row_text, task_numbers, interval_text, share_text, task_text, shown_text}
use Rattle.text.specs.Lines.{lines_of, said, held_of, answer_of}
use Rattle.text.specs.Answers.{read_answer}
use Rattle.text.proofs.Lines.{by_lines}
use Rattle.text.proofs.Rescaled.{Figured}
use Rattle.text.proofs.Regained.{read-nothing, without, Goes, goes-joined, goes-nothing, goes-remark, goes-row}
use Rattle.text.proofs.Long.{two-narrow, task-narrow}
use Rattle.text.proofs.Spelt.{words_below, loosely, blankly, row-cells, row-separator, row-alike, decimal-number, decimal-is, decimal-setting, decimal-good}

-- the columns so far: none yet, or those of a text without a header
pub data Stage (layout : Layout) : Type 0 where
  unset : layout.separator ≡ 0 → Stage layout
  plain : layout ≡ plain_layout 32 → Stage layout

-- none yet
abbrev pub Unset : Layout → Type 0
Unset layout = layout.separator ≡ 0

-- what is read: these settings, and the numbers of the first tasks
pub record Has (r : Reading) (interval round share : ℕ) (numbers : ℕ → List ℕ) (count : ℕ) : Type 0 where
  pub clear : is_refused r ≡ false
  pub given : is_given r.settings 1 ≡ true
  pub interval_is : setting_at r.settings 1 ≡ interval
  pub round_is : setting_at r.settings 2 ≡ round
  pub share_is : setting_at r.settings 3 ≡ share
  pub tasks : r.count ≡ count
  pub room : length r.tasks ≡ 8
  pub told : (k : ℕ) → k < count → (task_of r.tasks k).numbers ≡ numbers k

-- one task more, under columns that leave nothing to be filled in
module _ (r : Reading) (layout : Layout) (task : Task) (faults : has_column layout 2 ≡ true) (deadlines : has_column layout 5 ≡ true) where
  filled-same : (filled_task layout task).numbers ≡ task.numbers
  unfolding filled_task with_fault with_deadline
  filled-same = simp (faults, deadlines)

  -- what each task of the list has, and so does this one
  module _ {A : Type 0} (of : Task → A) (values : ℕ → A) (k : ℕ) (counted : r.count ≡ k) (below : k < 8) (room : length r.tasks ≡ 8) (before : (j : ℕ) → j < k → of (task_of r.tasks j) ≡ values j) (is : of (filled_task layout task) ≡ values k) where
    pub more-told : (j : ℕ) → j < suc k → of (task_of (set r.tasks r.count (filled_task layout task)) j) ≡ values j
    unfolding task_of
    more-told j h = go (dec_lt j k)
      where
        go : Dec (j < k) → of (task_of (set r.tasks r.count (filled_task layout task)) j) ≡ values j
        go (yes lt) = ap of (get_or-set_other r.tasks r.count j (filled_task layout task) past_task (λ e. omega (arith, counted))) ∙ before j lt
        go (no past) =
            let last : j ≡ r.count = omega (arith, counted) in
            let here : k ≡ j = omega arith in
            ap (λ (n : ℕ). of (task_of (set r.tasks r.count (filled_task layout task)) n)) last ∙ ap of (get_or-set_same r.tasks r.count (filled_task layout task) past_task (omega (arith, counted, room))) ∙ is ∙ ap values here

  module _ (interval round share : ℕ) (numbers : ℕ → List ℕ) (k : ℕ) (below : k < 8) (has : Has r interval round share numbers k) (is : task.numbers ≡ numbers k) where
    pub task-added : Has (with_read (with_task (with_layout r layout) task)) interval round share numbers (suc k)
    unfolding with_read with_task with_layout is_refused
    task-added =
        simp (lt-leb 8 r.count (omega (arith, has.tasks)))
        (record {
          clear = has.clear;
          given = has.given;
          interval_is = has.interval_is;
          round_is = has.round_is;
          share_is = has.share_is;
          tasks = omega (arith, has.tasks);
          room = length-set r.tasks r.count (filled_task layout task) ∙ has.room;
          told = more-told (λ t. t.numbers) numbers k has.tasks below has.room has.told (filled-same ∙ is);
        })

    -- the columns stay
    pub layout-kept : (with_read (with_task (with_layout r layout) task)).layout ≡ layout
    unfolding with_read with_task with_layout
    layout-kept = simp (lt-leb 8 r.count (omega (arith, has.tasks)))

    -- and so do the tasks before it
    pub tasks-kept : (with_read (with_task (with_layout r layout) task)).tasks ≡ set r.tasks r.count (filled_task layout task)
    unfolding with_read with_task with_layout
    tasks-kept = simp (lt-leb 8 r.count (omega (arith, has.tasks)))

pub value-is : (n : ℕ) → n < 65536 → (number_of (decimal n)).value ≡ n
value-is n narrow = ap (λ (v : Number). v.value) (decimal-number n (omega arith))

-- what is read, under other columns
pub laid-has : (r : Reading) (layout : Layout) {interval round share : ℕ} {numbers : ℕ → List ℕ} {k : ℕ} → Has r interval round share numbers k → Has (with_layout r layout) interval round share numbers k
unfolding with_layout is_refused
laid-has r layout has =
    record { clear = has.clear; given = has.given; interval_is = has.interval_is; round_is = has.round_is; share_is = has.share_is; tasks = has.tasks; room = has.room; told = has.told }

pub laid-is : (r : Reading) (layout : Layout) → (with_layout r layout).layout ≡ layout
unfolding with_layout
laid-is r layout = refl

-- a row of a task's numbers
abbrev row : Record → List ℕ
row task = joined_below (cell_text (task_numbers task)) 6

module _ (task : Record) (sized : Sized task) where
  words : List (List ℕ)
  words = decimal task.priority ∷ decimal task.fault_priority ∷ decimal task.cost ∷ decimal task.backup ∷ decimal task.deadline ∷ decimal task.period ∷ []

  loose-words : cells_in loose (row task) ≡ words
  unfolding words_below joined_below task_numbers words
  loose-words = row-cells loosely (task_numbers task) (task-narrow task sized) 5 (omega arith)

  blank-words : cells_in 32 (row task) ≡ words
  unfolding words_below joined_below task_numbers words
  blank-words = row-cells blankly (task_numbers task) (task-narrow task sized) 5 (omega arith)

  -- the task that it tells
  task_told : ℕ → Task
  task_told number = told_below (task_at number) (field_at (plain_layout 32)) (λ k. get_or words k []) 6

  told-numbers : (number : ℕ) → (task_told number).numbers ≡ task_numbers task
  unfolding task_told told_below told numbered field_at words task_numbers
  told-numbers number =
      simp
      (value-is task.priority (omega (arith, sized.priority)), value-is task.fault_priority (omega (arith, sized.fault)), value-is task.cost sized.cost, value-is task.backup sized.backup, value-is task.deadline sized.deadline, value-is task.period sized.period)

  words-good : (k : ℕ) → k < 6 → Good (field_at (plain_layout 32) k) (get_or words k [])
  unfolding field_at words
  words-good zero h = decimal-good 1 task.priority (omega (arith, sized.priority)) refl
  words-good (suc zero) h = decimal-good 2 task.fault_priority (omega (arith, sized.fault)) refl
  words-good (suc (suc zero)) h = decimal-good 3 task.cost sized.cost refl
  words-good (suc (suc (suc zero))) h = decimal-good 4 task.backup sized.backup refl
  words-good (suc (suc (suc (suc zero)))) h = decimal-good 5 task.deadline sized.deadline refl
  words-good (suc (suc (suc (suc (suc zero))))) h = decimal-good 6 task.period sized.period refl
  words-good (suc (suc (suc (suc (suc (suc k)))))) h = absurd (omega arith)

  -- its line is a task's line
  to-task : (r : Reading) (number : ℕ) → is_refused r ≡ false → is_given r.settings 1 ≡ true → Stage r.layout → line_read r number (row task) ≡ task_read (with_layout r (plain_layout 32)) number (row task)
  unfolding words with_layout
  to-task r number clear given (unset e) =
      plain-read r number (row task) clear (decimal task.priority) (drop 1 words) loose-words (omega arith) e given (omega arith) (decimal-is task.priority (omega (arith, sized.priority))).begins (decimal-setting task.priority)
      ∙ ap (λ (separator : ℕ). task_read (with_layout r (plain_layout separator)) number (row task)) (row-separator (task_numbers task) 6)
  to-task r number clear given (plain e) =
      later-read r number (row task) clear (decimal task.priority) (drop 1 words) loose-words (omega arith) (ap (λ (l : Layout). eqb l.separator 0) e) ∙ ap (λ (l : Layout). task_read (with_layout r l) number (row task)) e

  -- what is read with it
  after_task : Reading → ℕ → Reading
  after_task r number = with_read (with_task (with_layout r (plain_layout 32)) (task_told number))

  task-read : (r : Reading) (number : ℕ) → is_refused r ≡ false → is_given r.settings 1 ≡ true → Stage r.layout → r.count < 8 → line_read r number (row task) ≡ after_task r number
  unfolding after_task task_told with_layout is_refused words
  task-read r number clear given stage few =
      to-task r number clear given stage
      ∙ task-line (with_layout r (plain_layout 32)) number (row task) clear few (omega arith) (ap length blank-words) (λ k h. subst (λ (l : List (List ℕ)). Good (field_at (plain_layout 32) k) (get_or l k [])) (sym blank-words) (words-good k h))
      ∙ ap (λ (l : List (List ℕ)). with_read (with_task (with_layout r (plain_layout 32)) (told_below (task_at number) (field_at (plain_layout 32)) (λ k. get_or l k []) 6))) blank-words

-- what a text reaches, with something said of the columns
pub record Reaches (Columns : Layout → Type 0) (r : Reading) (number : ℕ) (text : List ℕ) (interval round share : ℕ) (numbers : ℕ → List ℕ) (count : ℕ) : Type 0 where
  pub reading : Reading
  pub next : ℕ
  pub goes : Goes r number text reading next
  pub has : Has reading interval round share numbers count
  pub columns : Columns reading.layout

-- the lines of the tasks, one after the other
module _ (records : List Record) (r : Reading) (number interval round share : ℕ) (start : Has r interval round share (λ k. task_numbers (record_at records k)) 0) (first : Stage r.layout) where
  tasks-reach : (k : ℕ) → k ≤ 8 → ((j : ℕ) → j < k → Sized (record_at records j)) → Reaches Stage r number (joined_below (task_text records) k) interval round share (λ k. task_numbers (record_at records k)) k
  unfolding joined_below task_text has_column after_task
  tasks-reach zero most sized = record { reading = r; next = number; goes = goes-nothing r number; has = start; columns = first }
  tasks-reach (suc k) most sized =
      let before = tasks-reach k (omega arith) (λ j h. sized j (omega arith)) in
      let task = record_at records k in
      let fits = sized k (omega arith) in
      let u = before.reading in
      let n = before.next in
      let read = task-read task fits u n before.has.clear before.has.given before.columns (omega (arith, before.has.tasks)) in
      record {
        reading = after_task task fits u n;
        next = after n;
        goes = goes-joined before.goes (subst (λ (v : Reading). Goes u n (row_text (task_numbers task) 6) v (after n)) read (goes-row (task_numbers task) (task-narrow task fits) 6 (omega arith) u n before.has.clear));
        has = task-added u (plain_layout 32) (task_told task fits n) refl refl interval round share (λ k. task_numbers (record_at records k)) k (omega arith) before.has (told-numbers task fits n);
        columns = plain (layout-kept u (plain_layout 32) (task_told task fits n) refl refl interval round share (λ k. task_numbers (record_at records k)) k (omega arith) before.has (told-numbers task fits n));
      }

-- the lines of the interval
interval_read : ℕ → Reading
interval_read interval = with_settings no_reading (with_setting no_settings 1 interval)

module _ (interval : ℕ) (narrow : interval < 65536) where
  interval-line : line_read no_reading (after 1) (joined_below (cell_text (interval ∷ 0 ∷ 0 ∷ 0 ∷ 0 ∷ 0 ∷ [])) 1) ≡ interval_read interval
  unfolding interval_read words_below joined_below is_refused is_given
  interval-line =
      lone-read no_reading (after 1) (joined_below (cell_text (interval ∷ 0 ∷ 0 ∷ 0 ∷ 0 ∷ 0 ∷ [])) 1) refl (decimal interval) interval (row-cells loosely (interval ∷ 0 ∷ 0 ∷ 0 ∷ 0 ∷ 0 ∷ []) (two-narrow interval 0 narrow (omega arith)) 0 (omega arith)) refl refl (decimal-is interval narrow)

  interval-goes : Goes no_reading 1 (interval_text interval) (interval_read interval) (after (after 1))
  unfolding interval_text without is_refused
  interval-goes =
      goes-joined {a = interval_names} (goes-remark no_reading 1 (take 9 (drop 1 interval_names)) refl)
      (subst (λ (u : Reading). Goes no_reading (after 1) (row_text (interval ∷ 0 ∷ 0 ∷ 0 ∷ 0 ∷ 0 ∷ []) 1) u (after (after 1))) interval-line
      (goes-row (interval ∷ 0 ∷ 0 ∷ 0 ∷ 0 ∷ 0 ∷ []) (two-narrow interval 0 narrow (omega arith)) 1 (omega arith) no_reading (after 1) refl))

interval-has : (interval : ℕ) (numbers : ℕ → List ℕ) → Has (interval_read interval) interval 1 1 numbers 0
unfolding interval_read with_settings with_setting is_refused is_given setting_at
interval-has interval numbers =
    record { clear = refl; given = refl; interval_is = refl; round_is = refl; share_is = refl; tasks = refl; room = refl; told = λ k h. absurd (omega arith) }

-- those of round and share
shared_read : ℕ → ℕ → ℕ → Reading
shared_read interval round share = with_settings (interval_read interval) (with_setting (with_setting (with_setting no_settings 1 interval) 2 round) 3 share)

module _ (interval round share number : ℕ) (narrow : round < 65536) (narrow' : share < 65536) where
  abbrev pair : List ℕ
  pair = round ∷ share ∷ 0 ∷ 0 ∷ 0 ∷ 0 ∷ []

  share-line : (at : ℕ) → line_read (interval_read interval) at (joined_below (cell_text pair) 2) ≡ shared_read interval round share
  unfolding shared_read interval_read words_below joined_below is_refused is_given is_open with_setting with_settings
  share-line at =
      pair_read_lem (interval_read interval) at (joined_below (cell_text pair) 2) refl (decimal round) (decimal share) round share (row-cells loosely pair (two-narrow round share narrow narrow') 1 (omega arith)) (decimal-is round narrow) (decimal-is share narrow') refl refl
      (decimal-setting round) (ap (λ (s : ℕ). cells_of s (joined_below (cell_text pair) 2)) (row-separator pair 2) ∙ row-alike pair 2)

  share-goes : Goes (interval_read interval) number (share_names ++ row_text pair 2) (shared_read interval round share) (after (after number))
  unfolding without interval_read is_refused with_settings
  share-goes =
      goes-joined {a = share_names} (goes-remark (interval_read interval) number (take 16 (drop 1 share_names)) refl)
      (subst (λ (u : Reading). Goes (interval_read interval) (after number) (row_text pair 2) u (after (after number))) (share-line (after number))
      (goes-row pair (two-narrow round share narrow narrow') 2 (omega arith) (interval_read interval) (after number) refl))

shared_has : (interval round share : ℕ) (numbers : ℕ → List ℕ) → Has (shared_read interval round share) interval round share numbers 0
unfolding shared_read interval_read with_settings with_setting is_refused is_given setting_at
shared_has interval round share numbers =
    record { clear = refl; given = refl; interval_is = refl; round_is = refl; share_is = refl; tasks = refl; room = refl; told = λ k h. absurd (omega arith) }

-- what stands before the tasks
pub header-reach : (t : Table) → t.interval < 65536 → t.round < 65536 → t.share < 65536 → (numbers : ℕ → List ℕ) → Reaches Unset no_reading 1 (interval_text t.interval ++ share_text t.round t.share) t.interval t.round t.share numbers 0
unfolding share_text is_whole interval_read shared_read with_settings
header-reach t narrow narrow' narrow'' numbers = go (is_whole t.round t.share) refl
  where
    go : (whole : Bool) → is_whole t.round t.share ≡ whole
        → Reaches Unset no_reading 1 (interval_text t.interval ++ cond whole [] (share_names ++ row_text (t.round ∷ t.share ∷ 0 ∷ 0 ∷ 0 ∷ 0 ∷ []) 2)) t.interval t.round t.share numbers 0
    go true e =
        let both = both_true (eqb t.round 1) (eqb t.share 1) e in
        rw (eqb-true t.round 1 both.0, eqb-true t.share 1 both.1)
        (record { reading = interval_read t.interval; next = after (after 1); goes = goes-joined (interval-goes t.interval narrow) (goes-nothing (interval_read t.interval) (after (after 1))); has = interval-has t.interval numbers; columns = refl })
    go false e =
        record {
          reading = shared_read t.interval t.round t.share;
          next = after (after (after (after 1)));
          goes = goes-joined (interval-goes t.interval narrow) (share-goes t.interval t.round t.share (after (after 1)) narrow' narrow'');
          has = shared_has t.interval t.round t.share numbers;
          columns = refl;
        }

-- the whole text of a table whose numbers have their widths
pub text-reach : (t : Table) → t.count ≤ 8 → ((place : ℕ) → place < t.count → Sized (record_at t.records place)) → t.interval < 65536 → t.round < 65536 → t.share < 65536
    → Reaches Stage no_reading 1 (shown_text t) t.interval t.round t.share (λ k. task_numbers (record_at t.records k)) t.count
unfolding shown_text without
text-reach t few sized narrow narrow' narrow'' =
    let before = header-reach t narrow narrow' narrow'' (λ k. task_numbers (record_at t.records k)) in
    let u = before.reading in
    let named = goes-joined {b = task_names} before.goes (goes-remark u before.next (take 49 (drop 1 task_names)) refl) in
    let all = tasks-reach t.records u (after before.next) t.interval t.round t.share before.has (unset before.columns) t.count few sized in
    record { reading = all.reading; next = all.next; goes = goes-joined named all.goes; has = all.has; columns = all.columns }

-- a text that ends after whole lines is understood as what is read
ended-answer : (r : Reading) (number : ℕ) → is_refused r ≡ false → is_given r.settings 1 ≡ true → answer_of r number (lines_of []) ≡ record { trouble = no_trouble; figures = figures_of r }
unfolding lines_of answer_of said answer_at ended_at answered
ended-answer r number clear given = ap (λ (u : Reading). answer_at u number (held_of [])) (read-nothing r number [] refl) ∙ simp (clear, given)

pub reaches-answer : (Columns : Layout → Type 0) (text : List ℕ) (interval round share : ℕ) (numbers : ℕ → List ℕ) (count : ℕ) (reach : Reaches Columns no_reading 1 text interval round share numbers count)
    → read_answer text ≡ record { trouble = no_trouble; figures = figures_of reach.reading }
reaches-answer Columns text interval round share numbers count reach =
    by_lines text ∙ ap (λ (l : List ℕ). answer_of no_reading 1 (lines_of l)) (sym (append-nil text)) ∙ reach.goes.goes [] ∙ ended-answer reach.reading reach.next reach.has.clear reach.has.given

-- its figures are the table's
pub reaches-figured : (Columns : Layout → Type 0) (t : Table) (text : List ℕ) (reach : Reaches Columns no_reading 1 text t.interval t.round t.share (λ k. task_numbers (record_at t.records k)) t.count) → Figured (figures_of reach.reading) t
unfolding figures_of
reaches-figured Columns t text reach =
    record { count = reach.has.tasks; interval = reach.has.interval_is; round = reach.has.round_is; share = reach.has.share_is; numbers = reach.has.told }
