-- A table's text with any separator and its columns in any order, read: the same table. Assumes nothing.
use Prim.Native.Nat.{ℕ, zero, suc, ◌+◌, ◌-◌, ◌≤◌, ◌<◌}
use mathlib.Core.Path.{◌≡◌, refl, sym, ap, ap₂, ◌∙◌, subst}
use mathlib.Core.Bool.{true, false}
use mathlib.Core.Logic.{inl, inr}
use mathlib.Core.List.{List, [], ◌∷◌, ◌++◌}
use native.Mathlib.Decide.{ℕ_discrete}
use native.Mathlib.Omega.{arith}
use borrow.Author.Tests.{ne_eqb, le-ltb}
use lib.Dec.{eqb}
use lib.ListN.{length, get_or, drop, set, length-set}
use lib.Seq.{get_or-set_same, get_or-set_other, ext_get_or}
use Rattle.places.specs.Places.{joined_below}
use Rattle.places.proofs.Onto.{Numbering, onto}
use Rattle.cells.specs.Kinds.{is_blank, is_digit, loose, lower, is_gap, opens, closes}
use Rattle.cells.specs.Cells.{separator_of}
use Rattle.cells.specs.Numbers.{is_quoted, quotes_refusal, content_of}
use Rattle.cells.specs.Names.{same, unknown_label, with_stage, with_letter, with_byte, label_from, label_of, is_word, is_named, column_named, column_of}
use Rattle.cells.specs.Raw.{is_none, cells_in}
use Rattle.sheet.specs.declared.Record.{Record}
use Rattle.sheet.specs.declared.Table.{Table}
use Rattle.lines.specs.Settings.{begins_number}
use Rattle.text.specs.Shown.{task_numbers}
use Rattle.text.specs.Written.{Separator, tab, semicolon, comma, space, separated, column_names, names_in, numbers_in, task_line, written_text}
use Rattle.lines.specs.declared.Layout.{Layout}
use Rattle.lines.specs.declared.Task.{Task}
use Rattle.lines.specs.declared.Reading.{Reading}
use Rattle.lines.specs.Troubles.{after, no_reading, task_at, with_task, with_layout, is_refused}
use Rattle.lines.specs.Settings.{is_given}
use Rattle.lines.specs.Columns.{named_layout, has_column, with_column, missing_column}
use Rattle.lines.specs.Tasks.{field_at, numbered, with_read}
use Rattle.lines.specs.Lines.{header_read, line_read}
use Rattle.lines.specs.Told.{Good, told, told_below, layout_below}
use Rattle.lines.proofs.Told.{Heads, header-line, task-line}
use Rattle.lines.proofs.Early.{header_read_lem, later-read}
use Rattle.cells.specs.Cells.{cells_of}
use Rattle.report.specs.Words.{newline}
use Rattle.report.specs.Decimal.{decimal}
use Rattle.text.proofs.Long.{Narrow, task-narrow}
use Rattle.text.proofs.Back.{Has, Reaches, header-reach, value-is, task-added, layout-kept, laid-has, laid-is}
use Rattle.text.proofs.Aligned.{short}
use Rattle.text.proofs.Spelt.{decimal-digits, decimal-good}
use Rattle.sheet.specs.Layout.{record_at}
use Rattle.sheet.proofs.Spelled.{Sized}
use Rattle.text.proofs.Regained.{Goes, goes-joined, goes-nothing, goes-line, said_plain, read_plain, first-all}
use Rattle.text.proofs.Ordered.{Words, nil, cons, cells-separated, order_laid, column_in, order-once, order-has, order-whole, SolidWord, digits-solid, are_small, small-solid, loosely, by, words-plain, cut-byte, line-without, line-separator, line-short, solid-low, solid-high}

-- the name of a column
record Heading (place : ℕ) (word : List ℕ) : Type 0 where
  solid : SolidWord word
  column : column_of word ≡ place + 1
  begins : begins_number word ≡ false
  short : length word ≤ 8
  some : is_none word ≡ false

headings : (place : ℕ) → place < 6 → Heading place (get_or column_names place [])
unfolding column_names is_none begins_number is_digit is_blank lower is_gap opens closes is_quoted quotes_refusal content_of same unknown_label with_stage with_letter with_byte label_from label_of is_word is_named column_named column_of are_small
headings zero h = record { solid = small-solid 112 (drop 1 (get_or column_names 0 [])) refl; column = refl; begins = refl; short = omega arith; some = refl }
headings (suc zero) h = record { solid = small-solid 102 (drop 1 (get_or column_names 1 [])) refl; column = refl; begins = refl; short = omega arith; some = refl }
headings (suc (suc zero)) h = record { solid = small-solid 99 (drop 1 (get_or column_names 2 [])) refl; column = refl; begins = refl; short = omega arith; some = refl }
headings (suc (suc (suc zero))) h = record { solid = small-solid 98 (drop 1 (get_or column_names 3 [])) refl; column = refl; begins = refl; short = omega arith; some = refl }
headings (suc (suc (suc (suc zero)))) h = record { solid = small-solid 100 (drop 1 (get_or column_names 4 [])) refl; column = refl; begins = refl; short = omega arith; some = refl }
headings (suc (suc (suc (suc (suc zero))))) h = record { solid = small-solid 112 (drop 1 (get_or column_names 5 [])) refl; column = refl; begins = refl; short = omega arith; some = refl }
headings (suc (suc (suc (suc (suc (suc place)))))) h = absurd (omega arith)

-- six words, each at its place
module _ (f : ℕ → List ℕ) where
  abbrev six : List (List ℕ)
  six = f 0 ∷ f 1 ∷ f 2 ∷ f 3 ∷ f 4 ∷ f 5 ∷ []

  six-at : (k : ℕ) → k < 6 → get_or six k [] ≡ f k
  six-at zero h = refl
  six-at (suc zero) h = refl
  six-at (suc (suc zero)) h = refl
  six-at (suc (suc (suc zero))) h = refl
  six-at (suc (suc (suc (suc zero)))) h = refl
  six-at (suc (suc (suc (suc (suc zero))))) h = refl
  six-at (suc (suc (suc (suc (suc (suc k)))))) h = absurd (omega arith)

  six-words : (P : List ℕ → Type 0) → ((k : ℕ) → k < 6 → P (f k)) → Words P six
  six-words P each = cons (each 0 (omega arith)) (cons (each 1 (omega arith)) (cons (each 2 (omega arith)) (cons (each 3 (omega arith)) (cons (each 4 (omega arith)) (cons (each 5 (omega arith)) nil)))))

layout-agree : (layout : Layout) (a b : ℕ → ℕ) (n : ℕ) → ((k : ℕ) → k < n → a k ≡ b k) → layout_below layout a n ≡ layout_below layout b n
unfolding layout_below
layout-agree layout a b zero alike = refl
layout-agree layout a b (suc n) alike = ap₂ with_column (layout-agree layout a b n (λ k h. alike k (omega arith))) (alike n (omega arith))

good-as : {a b : ℕ} {v w : List ℕ} → a ≡ b → v ≡ w → Good b w → Good a v
good-as {a} {b} {v} {w} e f good = subst (λ (c : ℕ). Good c v) (sym e) (subst (Good b) (sym f) good)

no-separator : {separator : ℕ} → Separator separator → eqb separator 0 ≡ false
no-separator tab = refl
no-separator semicolon = refl
no-separator comma = refl
no-separator space = refl

-- a line of six words that are cut at a separator
module _ {separator : ℕ} (by-this : Separator separator) (word : ℕ → List ℕ) (solid : (k : ℕ) → k < 6 → SolidWord (word k)) (short : (k : ℕ) → k < 6 → length (word k) ≤ 8) where
  abbrev line : List ℕ
  line = separated separator (six word)

  line-words : Words SolidWord (six word)
  line-words = six-words word SolidWord solid

  loose-cells : cells_in loose line ≡ six word
  loose-cells = cells-separated 0 separator (cut-byte by-this loosely (inr refl)) (words-plain loosely line-words)

  own-cells : cells_in separator line ≡ six word
  own-cells = cells-separated separator separator (cut-byte by-this (by by-this) (inl refl)) (words-plain (by by-this) line-words)

  own-separator : separator_of line ≡ separator
  own-separator = line-separator by-this line-words

  apart_from : (other : ℕ) → (other ≡ 9 → ⊥) → (other ≡ 59 → ⊥) → (other ≡ 44 → ⊥) → (other ≡ 32 → ⊥) → other ≡ separator → ⊥
  apart_from other a b c d = go by-this
    where
      go : {s : ℕ} → Separator s → other ≡ s → ⊥
      go tab = a
      go semicolon = b
      go comma = c
      go space = d

  -- it is read as it stands
  line-goes : (r : Reading) (number : ℕ) → is_refused r ≡ false → Goes r number (line ++ newline) (line_read r number line) (after number)
  line-goes r number clear =
      subst (λ (u : Reading). Goes r number (line ++ newline) u (after number))
      (read_plain r number line clear (said_plain (line-without 35 (apart_from 35 (λ e. omega arith) (λ e. omega arith) (λ e. omega arith) (λ e. omega arith)) (λ byte b. solid-low 35 b (omega arith)) line-words) false)
      (first-all refl (line-without 239 (apart_from 239 (λ e. omega arith) (λ e. omega arith) (λ e. omega arith) (λ e. omega arith)) (λ byte b. solid-high 239 b (omega arith)) line-words))
      (omega (arith, line-short separator (six-words word (λ w. length w ≤ 8) short))))
      (goes-line r number (line-without 10 (apart_from 10 (λ e. omega arith) (λ e. omega arith) (λ e. omega arith) (λ e. omega arith)) (λ byte b. solid-low 10 b (omega arith)) line-words))

module _ {separator : ℕ} (by-this : Separator separator) (order : ℕ → ℕ) (numbering : Numbering 6 order) where
  -- the header
  heading : ℕ → List ℕ
  heading k = get_or column_names (order k) []

  heading-is : (k : ℕ) → k < 6 → Heading (order k) (heading k)
  unfolding heading
  heading-is k h = headings (order k) (numbering.within k h)

  abbrev pub ordered : Layout
  ordered = layout_below (named_layout separator) (column_in separator order numbering) 6

  heading-line : List ℕ
  heading-line = separated separator (six heading)

  columns-are : (n : ℕ) → n ≤ 6 → layout_below (named_layout separator) (λ j. column_of (get_or (six heading) j [])) n ≡ layout_below (named_layout separator) (column_in separator order numbering) n
  columns-are n most = layout-agree (named_layout separator) _ _ n (λ k h. ap column_of (six-at heading k (omega arith)) ∙ (heading-is k (omega arith)).column)

  header-heads : (k : ℕ) → k < 6 → Heads (named_layout separator) (λ j. get_or (six heading) j []) k
  header-heads k h =
      let at = six-at heading k h in
      let column = ap column_of at ∙ (heading-is k h).column in
      record {
        some = ap is_none at ∙ (heading-is k h).some;
        known = ne_eqb (column_of (get_or (six heading) k [])) 0 (λ e. omega (arith, column));
        once = ap₂ has_column (columns-are k (omega arith)) column ∙ order-once separator order numbering k h;
      }

  header_is : (r : Reading) (number : ℕ) → is_refused r ≡ false → r.layout.separator ≡ 0 → is_given r.settings 1 ≡ true → line_read r number (separated separator (six heading)) ≡ with_layout r ordered
  unfolding with_layout is_refused
  header_is r number clear unset given =
      let here = separated separator (six heading) in
      let solid : (k : ℕ) → k < 6 → SolidWord (heading k) = λ k h. (heading-is k h).solid in
      let short : (k : ℕ) → k < 6 → length (heading k) ≤ 8 = λ k h. (heading-is k h).short in
      let e = own-cells by-this heading solid short in
      let whole : missing_column (layout_below (named_layout separator) (λ j. column_of (get_or (six heading) j [])) 6) ≡ 0 = ap missing_column (columns-are 6 (omega arith)) ∙ order-whole separator order numbering in
      header_read_lem r number here clear (heading 0) (drop 1 (six heading)) (loose-cells by-this heading solid short) (omega arith) unset given (omega arith) (heading-is 0 (omega arith)).begins (heading-is 1 (omega arith)).begins
      ∙ ap (λ (s : ℕ). header_read (with_layout r (named_layout s)) number here (cells_of s here)) (own-separator by-this heading solid short)
      ∙ header-line (with_layout r (named_layout separator)) number here separator clear (subst (λ (ws : List (List ℕ)). length ws ≤ 8) (sym e) (omega arith))
      (subst (λ (ws : List (List ℕ)). (k : ℕ) → k < length ws → Heads (named_layout separator) (λ j. get_or ws j []) k) (sym e) header-heads)
      (subst (λ (ws : List (List ℕ)). missing_column (layout_below (named_layout separator) (λ j. column_of (get_or ws j [])) (length ws)) ≡ 0) (sym e) whole)
      ∙ ap (λ (ws : List (List ℕ)). with_layout r (layout_below (named_layout separator) (λ j. column_of (get_or ws j [])) (length ws))) e ∙ ap (with_layout r) (columns-are 6 (omega arith))

  header-goes : (r : Reading) (number : ℕ) → is_refused r ≡ false → r.layout.separator ≡ 0 → is_given r.settings 1 ≡ true → Goes r number (separated separator (names_in order) ++ newline) (with_layout r ordered) (after number)
  unfolding names_in joined_below heading
  header-goes r number clear unset given =
      subst (λ (u : Reading). Goes r number (separated separator (six heading) ++ newline) u (after number)) (header_is r number clear unset given)
      (line-goes by-this heading (λ k h. (heading-is k h).solid) (λ k h. (heading-is k h).short) r number clear)

-- the task that a line tells whose numbers stand in an order
told-both : (task : Task) (a b : ℕ → ℕ) (v w : ℕ → List ℕ) (n : ℕ) → ((k : ℕ) → k < n → a k ≡ b k) → ((k : ℕ) → k < n → v k ≡ w k) → told_below task a v n ≡ told_below task b w n
unfolding told_below
told-both task a b v w zero columns cells = refl
told-both task a b v w (suc n) columns cells =
    ap₂ (λ (t : Task) (c : ℕ). told t c (v n)) (told-both task a b v w n (λ k h. columns k (omega arith)) (λ k h. cells k (omega arith))) (columns n (omega arith)) ∙ ap (told (told_below task b w n) (b n)) (cells n (omega arith))

module _ (order : ℕ → ℕ) (numbering : Numbering 6 order) (numbers : List ℕ) (narrow : Narrow numbers) where
  number_word : ℕ → List ℕ
  number_word k = decimal (get_or numbers (order k) 0)

  told-one : (task : Task) (k : ℕ) → k < 6 → told task (order k + 1) (number_word k) ≡ record { line = task.line; numbers = set task.numbers (order k) (get_or numbers (order k) 0); name = task.name }
  unfolding told numbered number_word
  told-one task k h =
      let at : order k + 1 - 1 ≡ order k = omega arith in
      let small = numbering.within k h in
      simp
      (ne_eqb (order k + 1) 7 (λ e. omega arith), ne_eqb (order k + 1) 0 (λ e. omega arith), le-ltb 6 (order k + 1) (omega arith), at, value-is (get_or numbers (order k) 0) (narrow (order k)))

  -- the numbers that are told
  record Told (n : ℕ) (task : Task) : Type 0 where
    long : length task.numbers ≡ 6
    at : (j k : ℕ) → k < n → order k ≡ j → get_or task.numbers j 0 ≡ get_or numbers j 0

  told_more : (n : ℕ) → n < 6 → (task : Task) → Told n task → Told (suc n) (record { line = task.line; numbers = set task.numbers (order n) (get_or numbers (order n) 0); name = task.name })
  told_more n below task before = record { long = length-set task.numbers (order n) (get_or numbers (order n) 0) ∙ before.long; at = at_more }
    where
      at_more : (j k : ℕ) → k < suc n → order k ≡ j → get_or (set task.numbers (order n) (get_or numbers (order n) 0)) j 0 ≡ get_or numbers j 0
      at_more j k h is = go (ℕ_discrete (order n) j)
        where
          earlier : (order n ≡ j → ⊥) → k < n
          earlier apart = step (ℕ_discrete k n)
            where
              step : Dec (k ≡ n) → k < n
              step (yes e) = absurd (apart (ap order (sym e) ∙ is))
              step (no e) = omega arith

          go : Dec (order n ≡ j) → get_or (set task.numbers (order n) (get_or numbers (order n) 0)) j 0 ≡ get_or numbers j 0
          go (yes e) =
              ap (λ (i : ℕ). get_or (set task.numbers (order n) (get_or numbers (order n) 0)) i 0) (sym e) ∙ get_or-set_same task.numbers (order n) (get_or numbers (order n) 0) 0 (omega (arith, numbering.within n below, before.long))
              ∙ ap (λ (i : ℕ). get_or numbers i 0) e
          go (no apart) = get_or-set_other task.numbers (order n) j (get_or numbers (order n) 0) 0 (λ e. apart (sym e)) ∙ before.at j k (earlier apart) is

  told_below_lem : (line n : ℕ) → n ≤ 6 → Told n (told_below (task_at line) (λ k. order k + 1) number_word n)
  unfolding told_below
  told_below_lem line zero most = record { long = refl; at = λ j k h. absurd (omega arith) }
  told_below_lem line (suc n) most =
      subst (Told (suc n)) (sym (told-one (told_below (task_at line) (λ k. order k + 1) number_word n) n (omega arith))) (told_more n (omega arith) (told_below (task_at line) (λ k. order k + 1) number_word n) (told_below_lem line n (omega arith)))

  -- are the numbers
  told-ordered : (line : ℕ) → length numbers ≡ 6 → (told_below (task_at line) (λ k. order k + 1) number_word 6).numbers ≡ numbers
  told-ordered line long =
      let all = told_below_lem line 6 (omega arith) in
      ext_get_or 0 (told_below (task_at line) (λ k. order k + 1) number_word 6).numbers numbers (all.long ∙ sym long) (λ j h. each j (omega (arith, all.long)) all)
    where
      each : (j : ℕ) → j < 6 → Told 6 (told_below (task_at line) (λ k. order k + 1) number_word 6) → get_or (told_below (task_at line) (λ k. order k + 1) number_word 6).numbers j 0 ≡ get_or numbers j 0
      each j h all =
          let found = onto 6 order numbering j h in
          all.at j found.0 found.1 found.2

-- a task's line under such a header
module _ {separator : ℕ} (by-this : Separator separator) (order : ℕ → ℕ) (numbering : Numbering 6 order) (task : Record) (sized : Sized task) where
  abbrev narrow : Narrow (task_numbers task)
  narrow = task-narrow task sized

  abbrev word : ℕ → List ℕ
  word k = number_word order numbering (task_numbers task) narrow k

  word-solid : (k : ℕ) → k < 6 → SolidWord (word k)
  unfolding number_word
  word-solid k h = digits-solid (decimal-digits (get_or (task_numbers task) (order k) 0))

  word-short : (k : ℕ) → k < 6 → length (word k) ≤ 8
  unfolding number_word
  word-short k h = omega (arith, short (get_or (task_numbers task) (order k) 0) (narrow (order k)))

  word_good : (k : ℕ) → k < 6 → Good (order k + 1) (word k)
  unfolding number_word
  word_good k h = decimal-good (order k + 1) (get_or (task_numbers task) (order k) 0) (narrow (order k)) (ne_eqb (order k + 1) 7 (λ e. omega (arith, numbering.within k h)))

  abbrev columns : Layout
  columns = ordered by-this order numbering

  ordered_task : ℕ → Task
  ordered_task number = told_below (task_at number) (λ k. order k + 1) word 6

  numbers-long : length (task_numbers task) ≡ 6
  unfolding task_numbers
  numbers-long = refl

  told_is : (number : ℕ) → (ordered_task number).numbers ≡ (told_below (task_at number) (λ k. order k + 1) word 6).numbers
  unfolding ordered_task
  told_is number = refl

  to-ordered : (r : Reading) (number : ℕ) → is_refused r ≡ false → r.count < 8 → line_read (with_layout r columns) number (separated separator (six word)) ≡ with_read (with_task (with_layout r columns) (ordered_task number))
  unfolding with_layout is_refused ordered_task field_at
  to-ordered r number clear few =
      let here = separated separator (six word) in
      let laid = order_laid separator order numbering 6 (omega arith) in
      let v = with_layout r columns in
      let e : cells_in columns.separator here ≡ six word = ap (λ (s : ℕ). cells_in s here) laid.apart ∙ own-cells by-this word word-solid word-short in
      let set_apart : eqb columns.separator 0 ≡ false = ap (λ (s : ℕ). eqb s 0) laid.apart ∙ no-separator by-this in
      let field : (k : ℕ) → k < 6 → field_at columns k ≡ order k + 1 = λ k h. laid.columns k h in
      let cell : (k : ℕ) → k < 6 → get_or (cells_in columns.separator here) k [] ≡ word k = λ k h. ap (λ (ws : List (List ℕ)). get_or ws k []) e ∙ six-at word k h in
      later-read v number here clear (word 0) (drop 1 (six word)) (loose-cells by-this word word-solid word-short) (omega arith) set_apart
      ∙ task-line v number here clear few (omega (arith, laid.wide)) (ap length e ∙ sym laid.wide) (λ k h. good-as (field k (omega (arith, laid.wide))) (cell k (omega (arith, laid.wide))) (word_good k (omega (arith, laid.wide))))
      ∙ ap (λ (n : ℕ). with_read (with_task v (told_below (task_at number) (field_at columns) (λ k. get_or (cells_in columns.separator here) k []) n))) laid.wide
      ∙ ap (λ (t : Task). with_read (with_task v t)) (told-both (task_at number) (field_at columns) (λ k. order k + 1) (λ k. get_or (cells_in columns.separator here) k []) word 6 field cell)

-- the lines of the tasks
module _ {separator : ℕ} (by-this : Separator separator) (order : ℕ → ℕ) (numbering : Numbering 6 order) (records : List Record) (r : Reading) (number interval round share : ℕ) (start : Has r interval round share (λ k. task_numbers (record_at records k)) 0)
    (laid_out : r.layout ≡ ordered by-this order numbering) where
  lines-reach : (k : ℕ) → k ≤ 8 → ((j : ℕ) → j < k → Sized (record_at records j))
      → Reaches (λ l. l ≡ ordered by-this order numbering) r number (joined_below (task_line separator order records) k) interval round share (λ k. task_numbers (record_at records k)) k
  unfolding joined_below task_line numbers_in number_word with_layout
  lines-reach zero most sized = record { reading = r; next = number; goes = goes-nothing r number; has = start; columns = laid_out }
  lines-reach (suc k) most sized =
      let before = lines-reach k (omega arith) (λ j h. sized j (omega arith)) in
      let task = record_at records k in
      let fits = sized k (omega arith) in
      let u = before.reading in
      let n = before.next in
      let layout = ordered by-this order numbering in
      let w = word by-this order numbering task fits in
      let told = ordered_task by-this order numbering task fits n in
      let faults = order-has separator order numbering 2 (omega arith) (omega arith) in
      let deadlines = order-has separator order numbering 5 (omega arith) (omega arith) in
      let numbers = told-ordered order numbering (task_numbers task) (task-narrow task fits) n (numbers-long by-this order numbering task fits) in
      let read : line_read u n (separated separator (six w)) ≡ with_read (with_task (with_layout u layout) told) =
      ap (λ (l : Layout). line_read (with_layout u l) n (separated separator (six w))) before.columns ∙ to-ordered by-this order numbering task fits u n before.has.clear (omega (arith, before.has.tasks)) in
      record {
        reading = with_read (with_task (with_layout u layout) told);
        next = after n;
        goes =
            goes-joined before.goes
            (subst (λ (v : Reading). Goes u n (separated separator (six w) ++ newline) v (after n)) read (line-goes by-this w (word-solid by-this order numbering task fits) (word-short by-this order numbering task fits) u n before.has.clear));
        has = task-added u layout told faults deadlines interval round share (λ k. task_numbers (record_at records k)) k (omega arith) before.has (told_is by-this order numbering task fits n ∙ numbers);
        columns = layout-kept u layout told faults deadlines interval round share (λ k. task_numbers (record_at records k)) k (omega arith) before.has (told_is by-this order numbering task fits n ∙ numbers);
      }

-- the whole text
pub written-reach : {separator : ℕ} (by-this : Separator separator) (order : ℕ → ℕ) (numbering : Numbering 6 order) (t : Table) → t.count ≤ 8 → ((place : ℕ) → place < t.count → Sized (record_at t.records place))
    → t.interval < 65536 → t.round < 65536 → t.share < 65536
    → Reaches (λ l. l ≡ ordered by-this order numbering) no_reading 1 (written_text separator order t) t.interval t.round t.share (λ k. task_numbers (record_at t.records k)) t.count
unfolding written_text
written-reach {separator} by-this order numbering t few sized narrow narrow' narrow'' =
    let before = header-reach t narrow narrow' narrow'' (λ k. task_numbers (record_at t.records k)) in
    let u = before.reading in
    let layout = ordered by-this order numbering in
    let headed = goes-joined before.goes (header-goes by-this order numbering u before.next before.has.clear before.columns before.has.given) in
    let all = lines-reach by-this order numbering t.records (with_layout u layout) (after before.next) t.interval t.round t.share (laid-has u layout before.has) (laid-is u layout) t.count few sized in
    record { reading = all.reading; next = all.next; goes = goes-joined headed all.goes; has = all.has; columns = all.columns }
