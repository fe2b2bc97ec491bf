-- Lines of plain words with separators between them: their cells are the words. Assumes nothing.
use Prim.Native.Nat.{ℕ, zero, suc, ◌+◌}
use mathlib.Core.Path.{◌≡◌, refl, ap, ◌∙◌}
use mathlib.Core.Bool.{Bool, true, false, not, ◌&&◌, ◌||◌}
use mathlib.Core.List.{List, [], ◌∷◌, ◌++◌}
use borrow.Author.Tests.{eq-eqb}
use lib.Dec.{eqb}
use lib.ListN.{replicate}
use Rattle.cells.specs.declared.Span.{Span}
use Rattle.cells.specs.declared.Cells.{Cells}
use Rattle.cells.specs.Kinds.{is_blank, separates, runs}
use Rattle.cells.specs.Cells.{turned, ends_cell, span_after, cells_after, cells_from, has_outside}
use Rattle.cells.specs.Raw.{with_first, raw_cells, is_none, after_blanks, before_blanks, trimmed, trimmed_all, kept, cells_in}
use Rattle.cells.proofs.Cut.{Some, some, raw-some, kept-one, kept_more}

-- a byte that is nothing but itself
pub record Own (separator byte : ℕ) : Type 0 where
  pub apart : separates separator byte ≡ false
  pub blank : is_blank byte ≡ false
  pub quote : eqb byte 34 ≡ false

-- a word of such bytes
pub data Plain (separator : ℕ) : List ℕ → Type 0 where
  last : {byte : ℕ} → Own separator byte → Plain separator (byte ∷ [])
  more : {byte : ℕ} {word : List ℕ} → Own separator byte → Plain separator word → Plain separator (byte ∷ word)

own-turns : {separator byte : ℕ} → Own separator byte → turned false byte ≡ false
unfolding turned
own-turns own = simp own.quote

-- a word and what follows it
module _ (separator : ℕ) where
  raw-byte : {byte : ℕ} → Own separator byte → (bytes : List ℕ) → raw_cells separator false (byte ∷ bytes) ≡ with_first byte (raw_cells separator false bytes)
  unfolding raw_cells
  raw-byte own bytes = simp (own.apart, own-turns own)

  raw-ends : (byte : ℕ) → separates separator byte ≡ true → (bytes : List ℕ) → raw_cells separator false (byte ∷ bytes) ≡ [] ∷ raw_cells separator false bytes
  unfolding raw_cells
  raw-ends byte e bytes = simp e

  raw_word : (byte : ℕ) → separates separator byte ≡ true → (bytes : List ℕ) {word : List ℕ} → Plain separator word → raw_cells separator false (word ++ (byte ∷ bytes)) ≡ word ∷ raw_cells separator false bytes
  unfolding with_first
  raw_word byte e bytes (last {byte = letter} own) = raw-byte own (byte ∷ bytes) ∙ ap (with_first letter) (raw-ends byte e bytes)
  raw_word byte e bytes (more {byte = letter} {word = word} own plain) = raw-byte own (word ++ (byte ∷ bytes)) ∙ ap (with_first letter) (raw_word byte e bytes plain)

  raw-last : {word : List ℕ} → Plain separator word → raw_cells separator false word ≡ word ∷ []
  unfolding with_first raw_cells
  raw-last (last {byte = letter} own) = raw-byte own []
  raw-last (more {byte = letter} {word = word} own plain) = raw-byte own word ∙ ap (with_first letter) (raw-last plain)

  -- no blanks stand around it
  before-plain : {word : List ℕ} → Plain separator word → before_blanks false word ≡ word
  unfolding before_blanks
  before-plain (last {byte = letter} own) = simp own.blank
  before-plain (more {byte = letter} {word = word} own plain) = simp (own.blank, own-turns own, before-plain plain)

  plain-trimmed : {word : List ℕ} → Plain separator word → trimmed word ≡ word
  unfolding trimmed after_blanks
  plain-trimmed (last {byte = letter} own) = simp own.blank (before-plain (last own))
  plain-trimmed (more {byte = letter} {word = word} own plain) = simp own.blank (before-plain (more own plain))

  plain-some : {word : List ℕ} → Plain separator word → is_none word ≡ false
  unfolding is_none
  plain-some (last own) = refl
  plain-some (more own plain) = refl

  -- the cells of a line that begins with a word,
  pub cells-word : (byte : ℕ) → separates separator byte ≡ true → (bytes word : List ℕ) → Plain separator word → cells_in separator (word ++ (byte ∷ bytes)) ≡ word ∷ cells_in separator bytes
  unfolding cells_in trimmed_all
  cells-word byte e bytes word plain =
      ap (λ (l : List (List ℕ)). kept separator (trimmed_all l)) (raw_word byte e bytes plain) ∙ ap (λ (c : List ℕ). kept separator (c ∷ trimmed_all (raw_cells separator false bytes))) (plain-trimmed plain)
      ∙ go (raw-some separator false bytes)
    where
      both : (b : Bool) → (b && false) ≡ false
      both true = refl
      both false = refl

      go : {cells : List (List ℕ)} → Some cells → kept separator (word ∷ trimmed_all cells) ≡ word ∷ kept separator (trimmed_all cells)
      go (some first cells) = kept_more separator word (trimmed first) (trimmed_all cells) ∙ simp (plain-some plain, both)

  -- of one word,
  pub cells-last : (word : List ℕ) → Plain separator word → cells_in separator word ≡ word ∷ []
  unfolding cells_in trimmed_all
  cells-last word plain =
      ap (λ (l : List (List ℕ)). kept separator (trimmed_all l)) (raw-last plain) ∙ ap (λ (c : List ℕ). kept separator (c ∷ [])) (plain-trimmed plain) ∙ kept-one separator word ∙ simp (plain-some plain)

  -- and of one that begins with a separator of a run
  pub cells-run : (byte : ℕ) → separates separator byte ≡ true → runs separator ≡ true → (bytes : List ℕ) → cells_in separator (byte ∷ bytes) ≡ cells_in separator bytes
  unfolding cells_in trimmed_all trimmed after_blanks before_blanks is_none
  cells-run byte e run bytes = ap (λ (l : List (List ℕ)). kept separator (trimmed_all l)) (raw-ends byte e bytes) ∙ go (raw-some separator false bytes)
    where
      go : {cells : List (List ℕ)} → Some cells → kept separator (trimmed_all ([] ∷ cells)) ≡ kept separator (trimmed_all cells)
      go (some first cells) = kept_more separator [] (trimmed first) (trimmed_all cells) ∙ simp run

-- every byte of a line has a property
pub data All (P : ℕ → Type 0) : List ℕ → Type 0 where
  none : All P []
  one : {byte : ℕ} {bytes : List ℕ} → P byte → All P bytes → All P (byte ∷ bytes)

pub all-joined : {P : ℕ → Type 0} {a b : List ℕ} → All P a → All P b → All P (a ++ b)
all-joined none q = q
all-joined (one p a) q = one p (all-joined a q)

pub all-wider : {P Q : ℕ → Type 0} → ((byte : ℕ) → P byte → Q byte) → {bytes : List ℕ} → All P bytes → All Q bytes
all-wider f none = none
all-wider f (one {byte = byte} p a) = one (f byte p) (all-wider f a)

pub all_alike : {P : ℕ → Type 0} (n byte : ℕ) → P byte → All P (replicate n byte)
all_alike zero byte p = none
all_alike (suc n) byte p = one p (all_alike n byte p)

-- a byte that a line has not
pub outside-none : (wanted : ℕ) (quoted : Bool) {bytes : List ℕ} → All (λ byte. eqb byte wanted ≡ false) bytes → has_outside wanted quoted bytes ≡ false
unfolding has_outside
outside-none wanted quoted none = refl
outside-none wanted quoted (one {byte = byte} p a) = simp (p, outside-none wanted (turned quoted byte) a) (go quoted)
  where
    go : (b : Bool) → ((not b && false) || false) ≡ false
    go true = refl
    go false = refl

-- and one that it has after others, none of them a quote
pub outside-some : (wanted : ℕ) (rest : List ℕ) {bytes : List ℕ} → All (λ byte. eqb byte 34 ≡ false) bytes → has_outside wanted false (bytes ++ (wanted ∷ rest)) ≡ true
unfolding has_outside turned
outside-some wanted rest none = simp (eq-eqb wanted wanted refl)
outside-some wanted rest (one {byte = byte} p a) = simp (p, outside-some wanted rest a) (go (eqb byte wanted))
  where
    go : (b : Bool) → (b || true) ≡ true
    go true = refl
    go false = refl

-- two separators that a line does not tell apart
pub cells-alike : (a b : ℕ) → runs a ≡ runs b → {bytes : List ℕ} → All (λ byte. separates a byte ≡ separates b byte) bytes → (cells : Cells) (span : Span) (at : ℕ) → cells_from cells a span at bytes ≡ cells_from cells b span at bytes
unfolding cells_from cells_after span_after ends_cell
cells-alike a b run none cells span at = refl
cells-alike a b run (one {byte = byte} {bytes = bytes} p rest) cells span at = simp (p, run) (cells-alike a b run rest (cells_after cells b span byte) (span_after b span byte at) (at + 1))
