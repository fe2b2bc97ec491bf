-- A line's cells told byte by byte. Assumes nothing.
use Prim.Native.Nat.{ℕ}
use mathlib.Core.Path.{◌≡◌, refl, sym, ap, ◌∙◌}
use mathlib.Core.Bool.{Bool, true, false, cond, not, ◌&&◌}
use mathlib.Core.List.{List, [], ◌∷◌, ◌++◌, append_assoc, append-nil}
use native.Mathlib.Omega.{arith}
use borrow.Author.Tests.{ne_eqb}
use lib.Dec.{eqb}
use Rattle.places.proofs.Tells.{both_true}
use Rattle.cells.specs.Kinds.{is_blank, separates, runs}
use Rattle.cells.specs.Cells.{turned}
use Rattle.cells.specs.Raw.{with_first, raw_cells, is_none, after_blanks, before_blanks, trimmed, trimmed_all, kept, cells_in}

pub never : false ≡ true → ⊥
never e =
    let z : ◌≡◌ {A = ℕ} 0 1 = cc in
    omega arith

-- the cells of the bytes that are left, with what is read of the first: its bytes so far, and the blanks after them, which count if it goes on
unfoldable pub spoken : ℕ → List ℕ → List ℕ → Bool → List ℕ → List (List ℕ)
spoken separator cell blanks quoted [] = cond (is_none cell) [] (cell ∷ [])
spoken separator cell blanks quoted (byte ∷ bytes) =
    cond (not quoted && separates separator byte)
    (cond (runs separator && is_none cell) (spoken separator [] [] false bytes) (cell ∷ spoken separator [] [] false bytes))
    (cond (is_blank byte && not quoted) (cond (is_none cell) (spoken separator [] [] quoted bytes) (spoken separator cell (blanks ++ (byte ∷ [])) quoted bytes))
    (spoken separator (cell ++ blanks ++ (byte ∷ [])) [] (turned quoted byte) bytes))

-- what the first cell comes to that goes on so
finished : List ℕ → List ℕ → Bool → List ℕ → List ℕ
finished [] blanks quoted rest = trimmed rest
finished (byte ∷ cell) blanks quoted rest = (byte ∷ cell) ++ cond (is_none (before_blanks quoted rest)) [] (blanks ++ before_blanks quoted rest)

-- a line has a cell
pub data Some : List (List ℕ) → Type 0 where
  some : (cell : List ℕ) (cells : List (List ℕ)) → Some (cell ∷ cells)

pub raw-some : (separator : ℕ) (quoted : Bool) (bytes : List ℕ) → Some (raw_cells separator quoted bytes)
unfolding raw_cells with_first
raw-some separator quoted [] = some [] []
raw-some separator quoted (byte ∷ bytes) = go (not quoted && separates separator byte) (raw-some separator false bytes) (raw-some separator (turned quoted byte) bytes)
  where
    go : {a b : List (List ℕ)} (ends : Bool) → Some a → Some b → Some (cond ends ([] ∷ a) (with_first byte b))
    go true (some cell cells) q = some [] (cell ∷ cells)
    go false p (some cell cells) = some (byte ∷ cell) cells

-- nothing more of the first cell
finished-end : (cell blanks : List ℕ) (quoted : Bool) → finished cell blanks quoted [] ≡ cell
unfolding finished trimmed after_blanks before_blanks is_none
finished-end [] blanks quoted = refl
finished-end (byte ∷ cell) blanks quoted = append-nil (byte ∷ cell)

-- the cells where the first is read so far
after : ℕ → List ℕ → List ℕ → Bool → List (List ℕ) → List (List ℕ)
after separator cell blanks quoted [] = []
after separator cell blanks quoted (rest ∷ cells) = kept separator (finished cell blanks quoted rest ∷ trimmed_all cells)

-- a cell that has not begun has no blanks after it and no open quote
pub data Begun : List ℕ → List ℕ → Bool → Type 0 where
  fresh : Begun [] [] false
  begun : (byte : ℕ) (cell blanks : List ℕ) (quoted : Bool) → Begun (byte ∷ cell) blanks quoted

-- a blank is no quote
blank-quote : (byte : ℕ) → is_blank byte ≡ true → eqb byte 34 ≡ false
unfolding is_blank
blank-quote byte e = ne_eqb byte 34 (λ is. never (sym (ap is_blank is) ∙ e))

blank-turns : (quoted : Bool) (byte : ℕ) → is_blank byte ≡ true → turned quoted byte ≡ quoted
unfolding turned
blank-turns quoted byte e = simp (blank-quote byte e)

-- a blank outside quotes, before the cell's first byte and after
fresh-blank : (byte : ℕ) (rest : List ℕ) → is_blank byte ≡ true → finished [] [] false (byte ∷ rest) ≡ finished [] [] false rest
unfolding finished trimmed after_blanks
fresh-blank byte rest e = simp e

begun-blank : (first byte : ℕ) (cell blanks rest : List ℕ) → is_blank byte ≡ true → finished (first ∷ cell) blanks false (byte ∷ rest) ≡ finished (first ∷ cell) (blanks ++ (byte ∷ [])) false rest
unfolding finished before_blanks is_none
begun-blank first byte cell blanks rest e = simp (e, blank-turns false byte e) (go (before_blanks false rest))
  where
    go : (l : List ℕ) → first ∷ cell ++ cond (is_none (cond (is_none l) [] (byte ∷ l))) [] (blanks ++ cond (is_none l) [] (byte ∷ l)) ≡ first ∷ cell ++ cond (is_none l) [] ((blanks ++ (byte ∷ [])) ++ l)
    go [] = refl
    go (x ∷ l) = ap (λ (m : List ℕ). first ∷ cell ++ m) (sym (append_assoc blanks (byte ∷ []) (x ∷ l)))

none-same : (l : List ℕ) → cond (is_none l) [] l ≡ l
unfolding is_none
none-same [] = refl
none-same (byte ∷ l) = refl

and-true : (b : Bool) → (b && true) ≡ false → b ≡ false
and-true true e = e
and-true false e = refl

-- any other byte
byte_more : {cell blanks : List ℕ} {quoted : Bool} → Begun cell blanks quoted → (byte : ℕ) (rest : List ℕ) → (is_blank byte && not quoted) ≡ false
    → finished cell blanks quoted (byte ∷ rest) ≡ finished (cell ++ blanks ++ (byte ∷ [])) [] (turned quoted byte) rest
unfolding finished trimmed after_blanks before_blanks is_none
byte_more fresh byte rest e =
    let plain = and-true (is_blank byte) e in
    simp plain (sym (ap (λ (l : List ℕ). byte ∷ l) (none-same (before_blanks (turned false byte) rest))))
byte_more (begun first cell blanks quoted) byte rest e =
    let on = before_blanks (turned quoted byte) rest in
    simp e (ap (λ (l : List ℕ). first ∷ l) (sym (ap (λ (l : List ℕ). cell ++ blanks ++ (byte ∷ []) ++ l) (none-same on) ∙ append_assoc (cell ++ blanks) (byte ∷ []) on ∙ append_assoc cell blanks (byte ∷ on))))

pub byte-begun : {cell blanks : List ℕ} {quoted : Bool} → Begun cell blanks quoted → (byte : ℕ) (quotes : Bool) → Begun (cell ++ blanks ++ (byte ∷ [])) [] quotes
byte-begun fresh byte quotes = begun byte [] [] quotes
byte-begun (begun first cell blanks quoted) byte quotes = begun first (cell ++ blanks ++ (byte ∷ [])) [] quotes

pub kept-one : (separator : ℕ) (cell : List ℕ) → kept separator (cell ∷ []) ≡ cond (is_none cell) [] (cell ∷ [])
unfolding kept
kept-one separator cell = refl

pub kept_more : (separator : ℕ) (cell next : List ℕ) (cells : List (List ℕ))
    → kept separator (cell ∷ next ∷ cells) ≡ cond (runs separator && is_none cell) (kept separator (next ∷ cells)) (cell ∷ kept separator (next ∷ cells))
unfolding kept
kept_more separator cell next cells = refl

spoken-is : (separator : ℕ) (bytes : List ℕ) {cell blanks : List ℕ} {quoted : Bool} → Begun cell blanks quoted → spoken separator cell blanks quoted bytes ≡ after separator cell blanks quoted (raw_cells separator quoted bytes)
unfolding spoken raw_cells after trimmed_all is_none with_first finished
spoken-is separator [] {cell} {blanks} {quoted} b = sym (ap (λ (c : List ℕ). kept separator (c ∷ [])) (finished-end cell blanks quoted) ∙ kept-one separator cell)
spoken-is separator (byte ∷ bytes) {cell} {blanks} {quoted} b =
    go (not quoted && separates separator byte) (is_blank byte && not quoted) refl b (raw-some separator false bytes) (raw-some separator (turned quoted byte) bytes) (spoken-is separator bytes fresh)
    (λ q e c bs d. spoken-is separator bytes d ∙ ap (λ (r : Bool). after separator c bs q (raw_cells separator r bytes)) (sym e))
  where
    with_cell : {c d : List ℕ} (cells : List (List ℕ)) → c ≡ d → kept separator (c ∷ cells) ≡ kept separator (d ∷ cells)
    with_cell cells e = ap (λ (c : List ℕ). kept separator (c ∷ cells)) e

    go : {cell blanks : List ℕ} {quoted : Bool} {a r : List (List ℕ)} (ends blank : Bool) → (is_blank byte && not quoted) ≡ blank → Begun cell blanks quoted → Some a → Some r
        → spoken separator [] [] false bytes ≡ after separator [] [] false a
        → ((q : Bool) → turned quoted byte ≡ q → (c bs : List ℕ) → Begun c bs q → spoken separator c bs q bytes ≡ after separator c bs q r)
        → cond ends (cond (runs separator && is_none cell) (spoken separator [] [] false bytes) (cell ∷ spoken separator [] [] false bytes))
        (cond blank (cond (is_none cell) (spoken separator [] [] quoted bytes) (spoken separator cell (blanks ++ (byte ∷ [])) quoted bytes)) (spoken separator (cell ++ blanks ++ (byte ∷ [])) [] (turned quoted byte) bytes))
        ≡ after separator cell blanks quoted (cond ends ([] ∷ a) (with_first byte r))
    go {cell} {blanks} {quoted} true blank e b (some first cells) q next on =
        ap (λ (l : List (List ℕ)). cond (runs separator && is_none cell) l (cell ∷ l)) next ∙ sym (kept_more separator cell (trimmed first) (trimmed_all cells)) ∙ with_cell (trimmed first ∷ trimmed_all cells) (sym (finished-end cell blanks quoted))
    go false true e fresh p (some first cells) next on =
        let is = (both_true (is_blank byte) true e).0 in
        on false (blank-turns false byte is) [] [] fresh ∙ with_cell (trimmed_all cells) (sym (fresh-blank byte first is))
    go false true e (begun x cell blanks true) p (some first cells) next on = absurd (never (both_true (is_blank byte) false e).1)
    go false true e (begun x cell blanks false) p (some first cells) next on =
        let is = (both_true (is_blank byte) true e).0 in
        on false (blank-turns false byte is) (x ∷ cell) (blanks ++ (byte ∷ [])) (begun x cell (blanks ++ (byte ∷ [])) false) ∙ with_cell (trimmed_all cells) (sym (begun-blank x byte cell blanks first is))
    go {cell} {blanks} {quoted} false false e b p (some first cells) next on =
        on (turned quoted byte) refl (cell ++ blanks ++ (byte ∷ [])) [] (byte-begun b byte (turned quoted byte)) ∙ with_cell (trimmed_all cells) (sym (byte_more b byte first e))

-- a line that is not begun
pub spoken-cells : (separator : ℕ) (line : List ℕ) → spoken separator [] [] false line ≡ cells_in separator line
unfolding cells_in after finished trimmed_all
spoken-cells separator line = spoken-is separator line fresh ∙ go (raw-some separator false line)
  where
    go : {cells : List (List ℕ)} → Some cells → after separator [] [] false cells ≡ kept separator (trimmed_all cells)
    go (some first cells) = refl
