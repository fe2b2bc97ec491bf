-- What a line is taken for, by its cells: nothing, a setting, the first line of the columns, a task's. Assumes nothing.
use Prim.Native.Nat.{ℕ, suc, ◌≤◌, ◌<◌, min}
use mathlib.Core.Path.{◌≡◌, refl, sym, ap, ◌∙◌, subst}
use mathlib.Core.Bool.{Bool, true, false, cond, ◌&&◌, ◌||◌}
use mathlib.Core.List.{List, [], ◌∷◌}
use native.Mathlib.Omega.{arith}
use borrow.Author.Tests.{ne_eqb, eq-eqb, le-leb}
use lib.Dec.{eqb}
use lib.ListN.{length, get_or}
use Rattle.cells.specs.Kinds.{loose}
use Rattle.cells.specs.Cells.{part_of, cells_of, separator_of}
use Rattle.cells.specs.Numbers.{number_of}
use Rattle.cells.specs.Names.{setting_of}
use Rattle.cells.specs.Raw.{cells_in}
use Rattle.cells.proofs.Found.{split-counted}
use Rattle.lines.specs.declared.Settings.{Settings}
use Rattle.lines.specs.declared.Reading.{Reading}
use Rattle.lines.specs.Troubles.{start_of, end_of, cell_of, with_settings, with_layout, is_refused}
use Rattle.lines.specs.Settings.{is_given, with_setting, begins_number, setting_with, setting_to, is_lone, is_named_line, are_first, is_open, is_pair, share_after, pair_read}
use Rattle.lines.specs.Columns.{plain_layout, named_layout}
use Rattle.lines.specs.Lines.{header_read, task_read, columns_read, first_read, early_read, words_read, line_read}
use Rattle.lines.proofs.Told.{cell-at}

-- a word is a number
pub record Number-is (word : List ℕ) (value : ℕ) : Type 0 where
  pub begins : begins_number word ≡ true
  pub is : number_of word ≡ record { refusal = 0; value = value }

-- how many words there are
words-counted : (line : List ℕ) (words : List (List ℕ)) → cells_in loose line ≡ words → length words ≤ 8 → (cells_of loose line).count ≡ length words
words-counted line words e most = split-counted loose line ∙ ap (λ (l : List (List ℕ)). min 8 (length l)) e ∙ omega arith

-- and each of them
word_at : (line : List ℕ) (words : List (List ℕ)) → cells_in loose line ≡ words → length words ≤ 8 → (place : ℕ) → place < length words → cell_of line (cells_of loose line) place ≡ get_or words place []
word_at line words e most place below =
    cell-at loose line place (subst (λ (l : List (List ℕ)). place < length l) (sym e) below) (subst (λ (l : List (List ℕ)). length l ≤ 8) (sym e) most) ∙ ap (λ (l : List (List ℕ)). get_or l place []) e

-- a line without content says nothing
pub nothing_read : (r : Reading) (number : ℕ) (line : List ℕ) → cells_in loose line ≡ [] → line_read r number line ≡ r
unfolding line_read words_read
nothing_read r number line e =
    let none : (cells_of loose line).count ≡ 0 = words-counted line [] e (omega arith) in
    simp (eq-eqb (cells_of loose line).count 0 none) (go (is_refused r))
  where
    go : (b : Bool) → cond (b || true) r (cond (eqb r.layout.separator 0) (early_read r number line (cells_of loose line)) (task_read r number line)) ≡ r
    go true = refl
    go false = refl

and_none : (b : Bool) → (b && false) ≡ false
and_none true = refl
and_none false = refl

clear-settings : (r : Reading) (settings : Settings) → is_refused r ≡ false → is_refused (with_settings r settings) ≡ false
unfolding is_refused with_settings
clear-settings r settings clear = clear

-- a setting's number
setting-read : (r : Reading) (number : ℕ) (line : List ℕ) (which start end value : ℕ) → number_of (part_of line start end) ≡ record { refusal = 0; value = value }
    → setting_to r number line which start end ≡ with_settings r (with_setting r.settings which value)
unfolding setting_to setting_with
setting-read r number line which start end value is = simp is

module _ (r : Reading) (number : ℕ) (line : List ℕ) (clear : is_refused r ≡ false) where
  module _ (first : List ℕ) (rest : List (List ℕ)) (cells : cells_in loose line ≡ first ∷ rest) (most : length (first ∷ rest) ≤ 8) where
    counted : (cells_of loose line).count ≡ suc (length rest)
    counted = words-counted line (first ∷ rest) cells most

    first-is : cell_of line (cells_of loose line) 0 ≡ first
    first-is = word_at line (first ∷ rest) cells most 0 (omega arith)

    -- a line after the first task's
    pub later-read : eqb r.layout.separator 0 ≡ false → line_read r number line ≡ task_read r number line
    unfolding line_read words_read
    later-read set = simp (clear, ne_eqb (cells_of loose line).count 0 (λ e. omega (arith, counted)), set)

    early : r.layout.separator ≡ 0 → line_read r number line ≡ early_read r number line (cells_of loose line)
    unfolding line_read words_read
    early unset = simp (clear, ne_eqb (cells_of loose line).count 0 (λ e. omega (arith, counted)), eq-eqb r.layout.separator 0 unset)

    -- the first line of the columns where there is no header
    pub plain-read : r.layout.separator ≡ 0 → is_given r.settings 1 ≡ true → 3 ≤ length (first ∷ rest) → begins_number first ≡ true → setting_of first ≡ 0
        → line_read r number line ≡ task_read (with_layout r (plain_layout (separator_of line))) number line
    unfolding early_read is_lone is_named_line is_pair first_read columns_read
    plain-read unset given many begins other =
        let count = (cells_of loose line).count in
        early unset
        ∙ simp (ne_eqb count 1 (λ e. omega (arith, counted)), le-leb 2 count (omega (arith, counted)), first-is, other, ne_eqb count 2 (λ e. omega (arith, counted)), given, begins)

    -- the header
    pub header_read_lem : r.layout.separator ≡ 0 → is_given r.settings 1 ≡ true → 2 ≤ length (first ∷ rest) → begins_number first ≡ false → begins_number (get_or (first ∷ rest) 1 []) ≡ false
        → line_read r number line ≡ header_read (with_layout r (named_layout (separator_of line))) number line (cells_of (separator_of line) line)
    unfolding early_read is_lone is_named_line is_pair first_read columns_read
    header_read_lem unset given many word second =
        let count = (cells_of loose line).count in
        let next : cell_of line (cells_of loose line) 1 ≡ get_or (first ∷ rest) 1 [] = word_at line (first ∷ rest) cells most 1 (omega arith) in
        early unset ∙ simp (ne_eqb count 1 (λ e. omega (arith, counted)), first-is, next, word, second, given, and_none)

  setting-word : (which place value : ℕ) (word : List ℕ) → cell_of line (cells_of loose line) place ≡ word → number_of word ≡ record { refusal = 0; value = value }
      → setting_to r number line which (start_of (cells_of loose line) place) (end_of (cells_of loose line) place) ≡ with_settings r (with_setting r.settings which value)
  unfolding cell_of
  setting-word which place value word at is = setting-read r number line which (start_of (cells_of loose line) place) (end_of (cells_of loose line) place) value (ap number_of at ∙ is)

  -- a number by itself is the interval
  pub lone-read : (word : List ℕ) (value : ℕ) → cells_in loose line ≡ word ∷ [] → r.layout.separator ≡ 0 → is_given r.settings 1 ≡ false → Number-is word value
      → line_read r number line ≡ with_settings r (with_setting r.settings 1 value)
  unfolding early_read is_lone
  lone-read word value cells unset none is =
      let at = first-is word [] cells (omega arith) in
      early word [] cells (omega arith) unset
      ∙ simp (eq-eqb (cells_of loose line).count 1 (counted word [] cells (omega arith)), none, at, is.begins) (setting-word 1 0 value word at is.is)

-- two numbers are round and share
module _ (r : Reading) (number : ℕ) (line : List ℕ) (clear : is_refused r ≡ false) (a b : List ℕ) (round share : ℕ) (cells : cells_in loose line ≡ a ∷ b ∷ []) (first : Number-is a round) (second : Number-is b share) where
  pair-settings : pair_read r number line (cells_of loose line) ≡ with_settings r (with_setting (with_setting r.settings 2 round) 3 share)
  unfolding pair_read share_after with_settings
  pair-settings =
      let words = cells_of loose line in
      let after = with_settings r (with_setting r.settings 2 round) in
      ap (λ (u : Reading). cond (is_refused u) u (setting_to u number line 3 (start_of words 1) (end_of words 1))) (setting-word r number line clear 2 0 round a (word_at line (a ∷ b ∷ []) cells (omega arith) 0 (omega arith)) first.is)
      ∙ simp (clear-settings r (with_setting r.settings 2 round) clear)
      (setting-word after number line (clear-settings r (with_setting r.settings 2 round) clear) 3 1 share b (word_at line (a ∷ b ∷ []) cells (omega arith) 1 (omega arith)) second.is)

  pub pair_read_lem : r.layout.separator ≡ 0 → is_open r.settings ≡ true → setting_of a ≡ 0 → cells_of (separator_of line) line ≡ cells_of loose line
      → line_read r number line ≡ with_settings r (with_setting (with_setting r.settings 2 round) 3 share)
  unfolding early_read is_lone is_named_line is_pair are_first
  pair_read_lem unset opened other same =
      let words = cells_of loose line in
      let many = words-counted line (a ∷ b ∷ []) cells (omega arith) in
      let at = word_at line (a ∷ b ∷ []) cells (omega arith) in
      early r number line clear a (b ∷ []) cells (omega arith) unset
      ∙ simp
      (ne_eqb words.count 1 (λ e. omega (arith, many)), le-leb 2 words.count (omega (arith, many)), eq-eqb words.count 2 many, at 0 (omega arith), at 1 (omega arith), other, opened, first.begins, second.begins, same, eq-eqb (start_of words 0) (start_of words 0) refl, eq-eqb (start_of words 1) (start_of words 1) refl)
      pair-settings
