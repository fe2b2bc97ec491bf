-- Columns by name, in any order and with any separator: the header's layout, and a line of numbers under it. Assumes nothing.
use Prim.Native.Nat.{ℕ, zero, suc, ◌+◌, ◌-◌, ◌*◌, ◌≤◌, ◌<◌}
use mathlib.Core.Path.{◌≡◌, refl, sym, ap, ◌∙◌}
use mathlib.Core.Bool.{Bool, true, false, ◌&&◌, ◌||◌}
use mathlib.Core.Logic.{◌⊎◌, inl, inr}
use mathlib.Core.List.{List, [], ◌∷◌}
use native.Mathlib.Decide.{dec_lt, ℕ_discrete}
use native.Mathlib.Omega.{arith}
use borrow.Author.Tests.{ne_eqb, eq-eqb, lt-leb, leb-true}
use lib.Dec.{eqb, leb}
use lib.ListN.{length, get_or, set, length-set, length-append}
use lib.Seq.{get_or-set_same, get_or-set_other}
use Rattle.places.specs.Places.{some_below}
use Rattle.places.proofs.Tells.{both_true}
use Rattle.places.proofs.Onto.{Numbering, onto}
use Rattle.places.proofs.Filled.{alike_at}
use Rattle.cells.specs.Kinds.{is_blank, is_loose, separates}
use Rattle.cells.specs.Raw.{raw_cells, is_none, after_blanks, before_blanks, trimmed, trimmed_all, kept, cells_in}
use Rattle.cells.proofs.Words.{Own, Plain, last, more, cells-word, cells-last, All, none, one, all-joined, all-wider, outside-none, outside-some}
use Rattle.cells.proofs.Digits.{Digit, digit-above, digit-below}
use Rattle.cells.specs.Cells.{separator_of}
use Rattle.lines.specs.declared.Layout.{Layout}
use Rattle.lines.specs.Columns.{named_layout, has_column, with_column, missing_column}
use Rattle.lines.specs.Told.{layout_below}
use Rattle.text.proofs.Spelt.{Digits, single, further}
use Rattle.text.specs.Written.{Separator, tab, semicolon, comma, space, separated}

-- every word of a line has a property
pub data Words (P : List ℕ → Type 0) : List (List ℕ) → Type 0 where
  nil : Words P []
  cons : {word : List ℕ} {words : List (List ℕ)} → P word → Words P words → Words P (word ∷ words)

-- the cells of separated words are the words
pub cells-separated : (separator byte : ℕ) → separates separator byte ≡ true → {words : List (List ℕ)} → Words (Plain separator) words → cells_in separator (separated byte words) ≡ words
unfolding separated cells_in raw_cells trimmed_all trimmed after_blanks before_blanks kept is_none
cells-separated separator byte e nil = refl
cells-separated separator byte e (cons {word = word} p nil) = cells-last separator word p
cells-separated separator byte e (cons {word = word} p (cons {word = next} {words = words} q ws)) =
    cells-word separator byte e (separated byte (next ∷ words)) word p ∙ ap (λ (l : List (List ℕ)). word ∷ l) (cells-separated separator byte e (cons q ws))

-- the columns after the first names of a header
pub record Laid (separator : ℕ) (column : ℕ → ℕ) (n : ℕ) (layout : Layout) : Type 0 where
  pub apart : layout.separator ≡ separator
  pub wide : layout.width ≡ n
  pub room : length layout.columns ≡ 8
  pub marks : length layout.given ≡ 8
  pub columns : (k : ℕ) → k < n → get_or layout.columns k 0 ≡ column k
  pub given : (c : ℕ) → c < 8 → get_or layout.given c false ≡ some_below (λ k. eqb (column k) c) n

or-true : (b : Bool) → (b || true) ≡ true
or-true true = refl
or-true false = refl

or-false : (b : Bool) → (b || false) ≡ b
or-false true = refl
or-false false = refl

module _ (separator : ℕ) (column : ℕ → ℕ) (few : (k : ℕ) → k < 6 → column k < 8) where
  -- one name more
  module _ (n : ℕ) (below : n < 6) (layout : Layout) (before : Laid separator column n layout) where
    columns-more : (k : ℕ) → k < suc n → get_or (set layout.columns layout.width (column n)) k 0 ≡ column k
    columns-more k h = go (dec_lt k n)
      where
        go : Dec (k < n) → get_or (set layout.columns layout.width (column n)) k 0 ≡ column k
        go (yes lt) = get_or-set_other layout.columns layout.width k (column n) 0 (λ e. omega (arith, before.wide)) ∙ before.columns k lt
        go (no past) =
            let last : k ≡ layout.width = omega (arith, before.wide) in
            let here : n ≡ k = omega arith in
            ap (λ (j : ℕ). get_or (set layout.columns layout.width (column n)) j 0) last ∙ get_or-set_same layout.columns layout.width (column n) 0 (omega (arith, before.wide, before.room)) ∙ ap column here

    given-more : (c : ℕ) → c < 8 → get_or (set layout.given (column n) true) c false ≡ (some_below (λ k. eqb (column k) c) n || eqb (column n) c)
    given-more c h = go (ℕ_discrete (column n) c)
      where
        go : Dec (column n ≡ c) → get_or (set layout.given (column n) true) c false ≡ (some_below (λ k. eqb (column k) c) n || eqb (column n) c)
        go (yes e) =
            ap (λ (j : ℕ). get_or (set layout.given (column n) true) j false) (sym e) ∙ get_or-set_same layout.given (column n) true false (omega (arith, few n below, before.marks))
            ∙ sym (ap (λ (b : Bool). some_below (λ k. eqb (column k) c) n || b) (eq-eqb (column n) c e) ∙ or-true (some_below (λ k. eqb (column k) c) n))
        go (no apart) =
            get_or-set_other layout.given (column n) c true false (λ e. apart (sym e)) ∙ before.given c h
            ∙ sym (ap (λ (b : Bool). some_below (λ k. eqb (column k) c) n || b) (ne_eqb (column n) c apart) ∙ or-false (some_below (λ k. eqb (column k) c) n))

    laid_more : Laid separator column (suc n) (with_column layout (column n))
    unfolding with_column some_below
    laid_more =
        simp (lt-leb 8 layout.width (omega (arith, before.wide)), lt-leb 8 (column n) (few n below))
        (record {
          apart = before.apart;
          wide = omega (arith, before.wide);
          room = length-set layout.columns layout.width (column n) ∙ before.room;
          marks = length-set layout.given (column n) true ∙ before.marks;
          columns = columns-more;
          given = given-more;
        })

  pub laid : (n : ℕ) → n ≤ 6 → Laid separator column n (layout_below (named_layout separator) column n)
  unfolding layout_below some_below
  laid zero most = record { apart = refl; wide = refl; room = refl; marks = refl; columns = λ k h. absurd (omega arith); given = λ c h. alike_at false 8 c }
  laid (suc n) most = laid_more n (omega arith) (layout_below (named_layout separator) column n) (laid n (omega arith))

some-true : (test : ℕ → Bool) (n k : ℕ) → k < n → test k ≡ true → some_below test n ≡ true
unfolding some_below
some-true test zero k h e = absurd (omega arith)
some-true test (suc n) k h e = go (dec_lt k n) (λ lt. some-true test n k lt e)
  where
    go : Dec (k < n) → (k < n → some_below test n ≡ true) → (some_below test n || test n) ≡ true
    go (yes lt) before = ap (λ (b : Bool). b || test n) (before lt)
    go (no past) before =
        let last : n ≡ k = omega arith in
        ap (λ (b : Bool). some_below test n || b) (ap test last ∙ e) ∙ or-true (some_below test n)

some-false : (test : ℕ → Bool) (n : ℕ) → ((k : ℕ) → k < n → test k ≡ false) → some_below test n ≡ false
unfolding some_below
some-false test zero each = refl
some-false test (suc n) each = simp (some-false test n (λ k h. each k (omega arith)), each n (omega arith))

-- six columns in an order
module _ (separator : ℕ) (order : ℕ → ℕ) (numbering : Numbering 6 order) where
  abbrev pub column_in : ℕ → ℕ
  column_in place = order place + 1

  few-columns : (k : ℕ) → k < 6 → column_in k < 8
  few-columns k h = omega (arith, numbering.within k h)

  pub order_laid : (n : ℕ) → n ≤ 6 → Laid separator column_in n (layout_below (named_layout separator) column_in n)
  order_laid n most = laid separator column_in few-columns n most

  -- no name stands twice,
  pub order-once : (k : ℕ) → k < 6 → has_column (layout_below (named_layout separator) column_in k) (column_in k) ≡ false
  unfolding has_column
  order-once k h =
      (order_laid k (omega arith)).given (column_in k) (few-columns k h)
      ∙ some-false (λ j. eqb (column_in j) (column_in k)) k (λ j lt. ne_eqb (column_in j) (column_in k) (λ e. differ j lt e))
    where
      differ : (j : ℕ) → j < k → column_in j ≡ column_in k → ⊥
      differ j lt e =
          let same = numbering.apart j k (omega arith) h (omega arith) in
          omega arith

  -- and every column is there
  pub order-has : (c : ℕ) → 1 ≤ c → c ≤ 6 → has_column (layout_below (named_layout separator) column_in 6) c ≡ true
  unfolding has_column
  order-has c low high =
      let found = onto 6 order numbering (c - 1) (omega arith) in
      (order_laid 6 (omega arith)).given c (omega arith) ∙ some-true (λ j. eqb (column_in j) c) 6 found.0 found.1 (eq-eqb (column_in found.0) c (omega (arith, found.2)))

  pub order-whole : missing_column (layout_below (named_layout separator) column_in 6) ≡ 0
  unfolding missing_column
  order-whole = simp (order-has 1 (omega arith) (omega arith), order-has 3 (omega arith) (omega arith), order-has 4 (omega arith) (omega arith), order-has 6 (omega arith) (omega arith))

-- digits and small letters
pub data Solid (byte : ℕ) : Type 0 where
  numeral : Digit byte → Solid byte
  small : 97 ≤ byte → byte ≤ 122 → Solid byte

-- no other byte is one
pub solid-low : {byte : ℕ} (other : ℕ) → Solid byte → other < 48 → eqb byte other ≡ false
solid-low other (numeral d) h = digit-above other d h
solid-low {byte} other (small low high) h = ne_eqb byte other (λ e. omega arith)

solid-middle : {byte : ℕ} (other : ℕ) → Solid byte → 57 < other → other < 97 → eqb byte other ≡ false
solid-middle other (numeral d) h g = digit-below other d h
solid-middle {byte} other (small low high) h g = ne_eqb byte other (λ e. omega arith)

pub solid-high : {byte : ℕ} (other : ℕ) → Solid byte → 122 < other → eqb byte other ≡ false
solid-high other (numeral d) h = digit-below other d (omega arith)
solid-high {byte} other (small low high) h = ne_eqb byte other (λ e. omega arith)

-- words of them
pub data SolidWord : List ℕ → Type 0 where
  only : {byte : ℕ} → Solid byte → SolidWord (byte ∷ [])
  also : {byte : ℕ} {bytes : List ℕ} → Solid byte → SolidWord bytes → SolidWord (byte ∷ bytes)

pub digits-solid : {bytes : List ℕ} → Digits bytes → SolidWord bytes
digits-solid (single d) = only (numeral d)
digits-solid (further d ds) = also (numeral d) (digits-solid ds)

unfoldable pub are_small : List ℕ → Bool
are_small [] = true
are_small (byte ∷ bytes) = (leb 97 byte && leb byte 122) && are_small bytes

one-small : (byte : ℕ) → (leb 97 byte && leb byte 122) ≡ true → Solid byte
one-small byte e =
    let both = both_true (leb 97 byte) (leb byte 122) e in
    small (leb-true 97 byte both.0) (leb-true byte 122 both.1)

pub small-solid : (byte : ℕ) (bytes : List ℕ) → are_small (byte ∷ bytes) ≡ true → SolidWord (byte ∷ bytes)
unfolding are_small
small-solid byte [] e = only (one-small byte (both_true (leb 97 byte && leb byte 122) true e).0)
small-solid byte (next ∷ bytes) e =
    let both = both_true (leb 97 byte && leb byte 122) (are_small (next ∷ bytes)) e in
    also (one-small byte both.0) (small-solid next bytes both.1)

-- what cuts them: all that is loose, or a separator
pub data Cuts : ℕ → Type 0 where
  loosely : Cuts 0
  by : {separator : ℕ} → Separator separator → Cuts separator

own-solid : {separator : ℕ} → Cuts separator → (byte : ℕ) → Solid byte → Own separator byte
unfolding separates is_loose is_blank
own-solid {separator} cuts byte b = record { apart = apart cuts; blank = blank; quote = solid-low 34 b (omega arith) }
  where
    blank : is_blank byte ≡ false
    blank = simp (solid-low 32 b (omega arith), solid-low 9 b (omega arith), solid-low 13 b (omega arith))

    apart : {s : ℕ} → Cuts s → separates s byte ≡ false
    apart loosely =
        simp (solid-low 32 b (omega arith), solid-low 9 b (omega arith), solid-low 13 b (omega arith), solid-low 44 b (omega arith), solid-middle 59 b (omega arith) (omega arith), solid-middle 61 b (omega arith) (omega arith), solid-middle 58 b (omega arith) (omega arith), solid-low 34 b (omega arith))
    apart (by tab) = solid-low 9 b (omega arith)
    apart (by semicolon) = solid-middle 59 b (omega arith) (omega arith)
    apart (by comma) = solid-low 44 b (omega arith)
    apart (by space) = blank

solid-plain : {separator : ℕ} → Cuts separator → {word : List ℕ} → SolidWord word → Plain separator word
solid-plain cuts (only {byte = byte} b) = last (own-solid cuts byte b)
solid-plain cuts (also {byte = byte} b bs) = more (own-solid cuts byte b) (solid-plain cuts bs)

pub words-plain : {separator : ℕ} → Cuts separator → {words : List (List ℕ)} → Words SolidWord words → Words (Plain separator) words
words-plain cuts nil = nil
words-plain cuts (cons w ws) = cons (solid-plain cuts w) (words-plain cuts ws)

-- a separator cuts, and so does all that is loose where it stands
pub cut-byte : {separator byte : ℕ} → Separator byte → Cuts separator → (separator ≡ byte) ⊎ (separator ≡ 0) → separates separator byte ≡ true
unfolding separates is_loose is_blank
cut-byte tab cuts (inl e) = rw e refl
cut-byte semicolon cuts (inl e) = rw e refl
cut-byte comma cuts (inl e) = rw e refl
cut-byte space cuts (inl e) = rw e refl
cut-byte tab cuts (inr e) = rw e refl
cut-byte semicolon cuts (inr e) = rw e refl
cut-byte comma cuts (inr e) = rw e refl
cut-byte space cuts (inr e) = rw e refl

-- the bytes of a line of such words
pub data Inner (separator byte : ℕ) : Type 0 where
  solid : Solid byte → Inner separator byte
  between : byte ≡ separator → Inner separator byte

word-inner : (separator : ℕ) {word : List ℕ} → SolidWord word → All (Inner separator) word
word-inner separator (only b) = one (solid b) none
word-inner separator (also b bs) = one (solid b) (word-inner separator bs)

pub line-inner : (separator : ℕ) {words : List (List ℕ)} → Words SolidWord words → All (Inner separator) (separated separator words)
unfolding separated
line-inner separator nil = none
line-inner separator (cons w nil) = word-inner separator w
line-inner separator (cons w (cons v ws)) = all-joined (word-inner separator w) (one (between refl) (line-inner separator (cons v ws)))

pub line-without : {separator : ℕ} {words : List (List ℕ)} (other : ℕ) → (other ≡ separator → ⊥) → ((byte : ℕ) → Solid byte → eqb byte other ≡ false) → Words SolidWord words → All (λ byte. eqb byte other ≡ false) (separated separator words)
line-without {separator} other apart each ws = all-wider inner (line-inner separator ws)
  where
    inner : (byte : ℕ) → Inner separator byte → eqb byte other ≡ false
    inner byte (solid b) = each byte b
    inner byte (between e) = ne_eqb byte other (λ is. apart (sym is ∙ e))

plain-quotes : {word : List ℕ} → SolidWord word → All (λ byte. eqb byte 34 ≡ false) word
plain-quotes (only b) = one (solid-low 34 b (omega arith)) none
plain-quotes (also b bs) = one (solid-low 34 b (omega arith)) (plain-quotes bs)

-- the separator that is found in it
pub line-separator : {separator : ℕ} → Separator separator → {first next : List ℕ} {words : List (List ℕ)} → Words SolidWord (first ∷ next ∷ words) → separator_of (separated separator (first ∷ next ∷ words)) ≡ separator
unfolding separator_of separated
line-separator tab {first} {next} {words} (cons w ws) = simp (outside-some 9 (separated 9 (next ∷ words)) (plain-quotes w))
line-separator semicolon {first} {next} {words} (cons w ws) =
    simp (outside-none 9 false (line-without {separator = 59} 9 (λ e. omega arith) (λ byte b. solid-low 9 b (omega arith)) (cons w ws)), outside-some 59 (separated 59 (next ∷ words)) (plain-quotes w))
line-separator comma {first} {next} {words} (cons w ws) =
    simp
    (outside-none 9 false (line-without {separator = 44} 9 (λ e. omega arith) (λ byte b. solid-low 9 b (omega arith)) (cons w ws)), outside-none 59 false (line-without {separator = 44} 59 (λ e. omega arith) (λ byte b. solid-middle 59 b (omega arith) (omega arith)) (cons w ws)), outside-some 44 (separated 44 (next ∷ words)) (plain-quotes w))
line-separator space {first} {next} {words} (cons w ws) =
    simp
    (outside-none 9 false (line-without {separator = 32} 9 (λ e. omega arith) (λ byte b. solid-low 9 b (omega arith)) (cons w ws)), outside-none 59 false (line-without {separator = 32} 59 (λ e. omega arith) (λ byte b. solid-middle 59 b (omega arith) (omega arith)) (cons w ws)), outside-none 44 false (line-without {separator = 32} 44 (λ e. omega arith) (λ byte b. solid-low 44 b (omega arith)) (cons w ws)))

-- and its length
pub line-short : (separator : ℕ) {words : List (List ℕ)} → Words (λ word. length word ≤ 8) words → length (separated separator words) ≤ 9 * length words
unfolding separated
line-short separator nil = omega arith
line-short separator (cons p nil) = omega arith
line-short separator (cons {word = word} p (cons {word = next} {words = words} q ws)) =
    omega (arith, length-append word (separator ∷ separated separator (next ∷ words)), line-short separator (cons {word = next} {words = words} q ws))
