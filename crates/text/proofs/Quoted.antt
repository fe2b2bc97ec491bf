-- A line that begins with a word in quotes: the word is one cell, whatever stands in it, and no comment begins in it. Assumes nothing.
use Prim.Native.Nat.{ℕ, ◌<◌}
use mathlib.Core.Path.{◌≡◌, refl, sym, ap, ◌∙◌, subst}
use mathlib.Core.Bool.{Bool, true, false, cond, not, ◌&&◌, ◌||◌}
use mathlib.Core.List.{List, [], ◌∷◌, ◌++◌}
use native.Mathlib.Omega.{arith}
use borrow.Author.Tests.{ne_eqb, ltb-false}
use lib.Dec.{eqb, ltb}
use lib.ListN.{length}
use Rattle.places.proofs.Tells.{neither}
use Rattle.cells.specs.Kinds.{is_blank, is_loose, separates, runs, is_control}
use Rattle.cells.specs.Cells.{turned}
use Rattle.cells.specs.Raw.{with_first, raw_cells, is_none, after_blanks, before_blanks, trimmed, trimmed_all, kept, cells_in}
use Rattle.cells.proofs.Cut.{Some, some, raw-some, kept_more}
use Rattle.cells.proofs.Words.{All, none, one, cells-run}
use Rattle.text.specs.Lines.{said}
use Rattle.text.proofs.Called.{doubled}

-- what follows the first quote, a byte at a time: each quote of the word stands twice, so that nothing in it is outside quotes
raw-inside : (rest letters : List ℕ) → raw_cells 32 true (doubled letters ++ (34 ∷ 32 ∷ rest)) ≡ (doubled letters ++ (34 ∷ [])) ∷ raw_cells 32 false rest
unfolding raw_cells with_first separates is_blank turned doubled
raw-inside rest [] = refl
raw-inside rest (byte ∷ letters) = go (eqb byte 34) refl (raw-inside rest letters)
  where
    go : (is : Bool) → eqb byte 34 ≡ is → raw_cells 32 true (doubled letters ++ (34 ∷ 32 ∷ rest)) ≡ (doubled letters ++ (34 ∷ [])) ∷ raw_cells 32 false rest
        → raw_cells 32 true (cond is (34 ∷ 34 ∷ doubled letters) (byte ∷ doubled letters) ++ (34 ∷ 32 ∷ rest)) ≡ (cond is (34 ∷ 34 ∷ doubled letters) (byte ∷ doubled letters) ++ (34 ∷ [])) ∷ raw_cells 32 false rest
    go true e before = ap (λ (cells : List (List ℕ)). with_first 34 (with_first 34 cells)) before
    go false e before = simp e (ap (with_first byte) before)

-- a word that ends in a quote has no blanks after it
quote-some : (word : List ℕ) → is_none (word ++ (34 ∷ [])) ≡ false
unfolding is_none
quote-some [] = refl
quote-some (byte ∷ word) = refl

before-quote : (quoted : Bool) (word : List ℕ) → before_blanks quoted (word ++ (34 ∷ [])) ≡ word ++ (34 ∷ [])
unfolding before_blanks is_blank
before-quote quoted [] = refl
before-quote quoted (byte ∷ word) = simp (before-quote (turned quoted byte) word, quote-some word) (go (eqb byte 32 || eqb byte 9 || eqb byte 13) (not quoted))
  where
    go : (blank outside : Bool) → cond (blank && outside && false) [] (byte ∷ word ++ (34 ∷ [])) ≡ byte ∷ word ++ (34 ∷ [])
    go true true = refl
    go true false = refl
    go false true = refl
    go false false = refl

-- the cells of a line that begins with a word in quotes and a blank
pub cells-quoted : (letters rest : List ℕ) → cells_in 32 (34 ∷ doubled letters ++ (34 ∷ 32 ∷ rest)) ≡ (34 ∷ doubled letters ++ (34 ∷ [])) ∷ cells_in 32 rest
unfolding cells_in raw_cells with_first separates is_blank turned trimmed_all trimmed after_blanks is_none runs
cells-quoted letters rest =
    ap (λ (cells : List (List ℕ)). kept 32 (trimmed_all (with_first 34 cells))) (raw-inside rest letters)
    ∙ ap (λ (cell : List ℕ). kept 32 (cell ∷ trimmed_all (raw_cells 32 false rest))) (before-quote false (34 ∷ doubled letters))
    ∙ go (raw-some 32 false rest)
  where
    go : {cells : List (List ℕ)} → Some cells → kept 32 ((34 ∷ doubled letters ++ (34 ∷ [])) ∷ trimmed_all cells) ≡ (34 ∷ doubled letters ++ (34 ∷ [])) ∷ kept 32 (trimmed_all cells)
    go (some first cells) = kept_more 32 (34 ∷ doubled letters ++ (34 ∷ [])) (trimmed first) (trimmed_all cells)

-- no comment begins in such a word
said-inside : (rest letters : List ℕ) → said true (doubled letters ++ (34 ∷ rest)) ≡ doubled letters ++ (34 ∷ said false rest)
unfolding said turned doubled
said-inside rest [] = refl
said-inside rest (byte ∷ letters) = go (eqb byte 34) refl (said-inside rest letters)
  where
    go : (is : Bool) → eqb byte 34 ≡ is → said true (doubled letters ++ (34 ∷ rest)) ≡ doubled letters ++ (34 ∷ said false rest)
        → said true (cond is (34 ∷ 34 ∷ doubled letters) (byte ∷ doubled letters) ++ (34 ∷ rest)) ≡ cond is (34 ∷ 34 ∷ doubled letters) (byte ∷ doubled letters) ++ (34 ∷ said false rest)
    go true e before = ap (λ (l : List ℕ). 34 ∷ 34 ∷ l) before
    go false e before = simp (e, inside (eqb byte 35)) (ap (λ (l : List ℕ). byte ∷ l) before)
      where
        inside : (b : Bool) → (b && false) ≡ false
        inside true = refl
        inside false = refl

pub said-quoted : (letters rest : List ℕ) → said false rest ≡ rest → said false (34 ∷ doubled letters ++ (34 ∷ rest)) ≡ 34 ∷ doubled letters ++ (34 ∷ rest)
unfolding said turned
said-quoted letters rest plain = ap (λ (l : List ℕ). 34 ∷ l) (said-inside rest letters ∙ ap (λ (l : List ℕ). doubled letters ++ (34 ∷ l)) plain)

-- what is true of a quote and of every byte is true of the bytes with their quotes doubled
pub doubled-all : {P : ℕ → Type 0} → P 34 → {letters : List ℕ} → All P letters → All P (doubled letters)
unfolding doubled
doubled-all quote none = none
doubled-all {P} quote (one {byte = byte} {bytes = bytes} p rest) = go (eqb byte 34) (doubled-all quote rest)
  where
    go : (is : Bool) → All P (doubled bytes) → All P (cond is (34 ∷ 34 ∷ doubled bytes) (byte ∷ doubled bytes))
    go true more = one quote (one quote more)
    go false more = one p more

-- a byte that is no control character ends no line
pub control-ends : (byte : ℕ) → is_control byte ≡ false → eqb byte 10 ≡ false
unfolding is_control
control-ends byte plain = ne_eqb byte 10 (λ e. omega (arith, ltb-false byte 32 (neither (ltb byte 32) (eqb byte 127) plain).0))

-- bytes before a line's words leave it with words
kept-some : (byte : ℕ) (cell : List ℕ) (cells : List (List ℕ)) → 0 < length (kept 0 ((byte ∷ cell) ∷ cells))
unfolding kept is_none runs
kept-some byte cell [] = omega arith
kept-some byte cell (next ∷ cells) = omega arith

loose-blank : (byte : ℕ) → is_loose byte ≡ false → is_blank byte ≡ false
unfolding is_loose
loose-blank byte e =
    (neither (is_blank byte) (eqb byte 44)
    (neither (is_blank byte || eqb byte 44) (eqb byte 59)
    (neither (is_blank byte || eqb byte 44 || eqb byte 59) (eqb byte 61)
    (neither (is_blank byte || eqb byte 44 || eqb byte 59 || eqb byte 61) (eqb byte 58)
    (neither (is_blank byte || eqb byte 44 || eqb byte 59 || eqb byte 61 || eqb byte 58) (eqb byte 34) e).0).0).0).0
    ).0

word_some : (byte : ℕ) (bytes : List ℕ) → 0 < length (cells_in 0 bytes) → 0 < length (cells_in 0 (byte ∷ bytes))
unfolding cells_in raw_cells with_first separates is_loose trimmed_all trimmed after_blanks before_blanks runs
word_some byte bytes before = go (is_loose byte) refl
  where
    first : is_blank byte ≡ false → {cells : List (List ℕ)} → Some cells → 0 < length (kept 0 (trimmed_all (with_first byte cells)))
    first own (some cell cells) = simp own (kept-some byte (before_blanks (turned false byte) cell) (trimmed_all cells))

    go : (apart : Bool) → is_loose byte ≡ apart → 0 < length (cells_in 0 (byte ∷ bytes))
    go true e = subst (λ (cells : List (List ℕ)). 0 < length cells) (sym (cells-run 0 byte e refl bytes)) before
    go false e = simp e (first (loose-blank byte e) (raw-some 0 (turned false byte) bytes))

pub words-some : (a b : List ℕ) → 0 < length (cells_in 0 b) → 0 < length (cells_in 0 (a ++ b))
words-some [] b there = there
words-some (byte ∷ a) b there = word_some byte (a ++ b) (words-some a b there)
