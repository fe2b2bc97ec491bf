-- What `show` writes, read again: line after line, and the table of the figures. Assumes nothing.
use Prim.Native.Nat.{ℕ, ◌≤◌}
use mathlib.Core.Path.{◌≡◌, refl, ap, ap₂, ◌∙◌, subst}
use mathlib.Core.Bool.{Bool, true, false, cond, not, ◌&&◌}
use mathlib.Core.Logic.{inl, inr}
use mathlib.Core.List.{List, [], ◌∷◌, ◌++◌, append_assoc}
use native.Mathlib.Omega.{arith}
use borrow.Author.Tests.{le-ltb, not-true}
use lib.Dec.{eqb, ltb}
use lib.ListN.{length, get_or, take}
use lib.Seq.{take_all}
use Rattle.places.specs.Places.{joined_below}
use Rattle.places.proofs.Tells.{both_true}
use Rattle.cells.specs.Cells.{part_of, turned}
use Rattle.cells.specs.Raw.{raw_cells, is_none, after_blanks, before_blanks, trimmed, trimmed_all, kept, cells_in}
use Rattle.cells.proofs.Words.{All, none, one}
use Rattle.lines.specs.declared.Reading.{Reading}
use Rattle.lines.specs.Troubles.{after, is_refused}
use Rattle.lines.specs.Lines.{line_read}
use Rattle.lines.specs.Answers.{has_mark, unmarked, content_taken, line_taken}
use Rattle.lines.proofs.Early.{nothing_read}
use Rattle.text.specs.Lines.{with_first, lines_of, said, held_of, is_long, read_with, answer_of}
use Rattle.text.specs.Shown.{cell_text, row_text}
use Rattle.text.proofs.Lines.{Some, some, lines-some}
use Rattle.text.proofs.Aligned.{columns-most}
use Rattle.text.proofs.Long.{Narrow, length-cells}
use Rattle.text.proofs.Spelt.{row-without}

-- a byte that no byte of a list is
unfoldable pub without : ℕ → List ℕ → Bool
without other [] = true
without other (byte ∷ bytes) = not (eqb byte other) && without other bytes

pub without_all : (other : ℕ) (bytes : List ℕ) → without other bytes ≡ true → All (λ byte. eqb byte other ≡ false) bytes
unfolding without
without_all other [] e = none
without_all other (byte ∷ bytes) e =
    let both = both_true (not (eqb byte other)) (without other bytes) e in
    one (not-true (eqb byte other) both.0) (without_all other bytes both.1)

-- a line and the lines after it
pub lines-line : (rest : List ℕ) {line : List ℕ} → All (λ byte. eqb byte 10 ≡ false) line → lines_of (line ++ (10 ∷ rest)) ≡ line ∷ lines_of rest
unfolding lines_of with_first
lines-line rest none = refl
lines-line rest (one {byte = byte} p a) = simp p (ap (with_first byte) (lines-line rest a))

-- a line without a comment
pub said_plain : {line : List ℕ} → All (λ byte. eqb byte 35 ≡ false) line → (quoted : Bool) → said quoted line ≡ line
unfolding said
said_plain none quoted = refl
said_plain (one {byte = byte} p a) quoted = simp p (ap (λ (l : List ℕ). byte ∷ l) (said_plain a (turned quoted byte)))

-- one line more
answer-more : (r : Reading) (number : ℕ) (line : List ℕ) {lines : List (List ℕ)} → Some lines → answer_of r number (line ∷ lines) ≡ answer_of (read_with r number line) (after number) lines
unfolding answer_of
answer-more r number line (some next lines) = refl

-- a text that takes what is read from one reading to another, whatever follows
pub record Goes (r : Reading) (number : ℕ) (text : List ℕ) (u : Reading) (next : ℕ) : Type 0 where
  pub goes : (rest : List ℕ) → answer_of r number (lines_of (text ++ rest)) ≡ answer_of u next (lines_of rest)

pub goes-joined : {r u v : Reading} {k m n : ℕ} {a b : List ℕ} → Goes r k a u m → Goes u m b v n → Goes r k (a ++ b) v n
goes-joined {r} {u} {v} {k} {m} {n} {a} {b} p q = record { goes = λ rest. ap (λ (l : List ℕ). answer_of r k (lines_of l)) (append_assoc a b rest) ∙ p.goes (b ++ rest) ∙ q.goes rest }

pub goes-nothing : (r : Reading) (number : ℕ) → Goes r number [] r number
goes-nothing r number = record { goes = λ rest. refl }

pub goes-line : (r : Reading) (number : ℕ) {line : List ℕ} → All (λ byte. eqb byte 10 ≡ false) line → Goes r number (line ++ (10 ∷ [])) (read_with r number line) (after number)
goes-line r number {line} ended =
    record { goes = λ rest. ap (λ (l : List ℕ). answer_of r number (lines_of l)) (append_assoc line (10 ∷ []) rest) ∙ ap (answer_of r number) (lines-line rest ended) ∙ answer-more r number line (lines-some rest) }

-- a line that does not begin with a byte order mark
pub unmarked-plain : (number : ℕ) (line : List ℕ) → eqb (get_or line 0 0) 239 ≡ false → unmarked number line ≡ line
unfolding unmarked has_mark
unmarked-plain number line e = simp e (go (eqb number 1))
  where
    go : (b : Bool) → cond (b && false) (part_of line 3 (length line)) line ≡ line
    go true = refl
    go false = refl

-- a line without content
nothing-content : (r : Reading) (number : ℕ) → content_taken r number [] false ≡ r
unfolding content_taken cells_in raw_cells trimmed_all trimmed after_blanks before_blanks kept is_none
nothing-content r number = simp (nothing_read r number [] refl) (go (is_refused r))
  where
    go : (b : Bool) → cond b r r ≡ r
    go true = refl
    go false = refl

nothing-taken : (r : Reading) (number : ℕ) → line_taken r number [] false ≡ r
unfolding line_taken
nothing-taken r number = ap (λ (l : List ℕ). content_taken r number l false) (unmarked-plain number [] refl) ∙ nothing-content r number

held-nothing : (line : List ℕ) → said false line ≡ [] → held_of line ≡ []
unfolding held_of
held-nothing line e = ap (take 512) e

long-nothing : (line : List ℕ) → said false line ≡ [] → is_long line ≡ false
unfolding is_long
long-nothing line e = ap (λ (l : List ℕ). ltb 512 (length l)) e

pub read-nothing : (r : Reading) (number : ℕ) (line : List ℕ) → said false line ≡ [] → read_with r number line ≡ r
unfolding read_with
read-nothing r number line e = ap₂ (line_taken r number) (held-nothing line e) (long-nothing line e) ∙ nothing-taken r number

-- and one with content, without a comment or a byte order mark
plain-taken : (r : Reading) (number : ℕ) (line : List ℕ) → is_refused r ≡ false → eqb (get_or line 0 0) 239 ≡ false → line_taken r number line false ≡ line_read r number line
unfolding line_taken content_taken
plain-taken r number line clear e = simp (clear, unmarked-plain number line e)

held_plain : (line : List ℕ) → said false line ≡ line → length line ≤ 512 → held_of line ≡ line
unfolding held_of
held_plain line plain fits = ap (take 512) plain ∙ take_all 512 line fits

long-plain : (line : List ℕ) → said false line ≡ line → length line ≤ 512 → is_long line ≡ false
unfolding is_long
long-plain line plain fits = ap (λ (l : List ℕ). ltb 512 (length l)) plain ∙ le-ltb 512 (length line) fits

pub read_plain : (r : Reading) (number : ℕ) (line : List ℕ) → is_refused r ≡ false → said false line ≡ line → eqb (get_or line 0 0) 239 ≡ false → length line ≤ 512 → read_with r number line ≡ line_read r number line
unfolding read_with
read_plain r number line clear plain unmark fits = ap₂ (line_taken r number) (held_plain line plain fits) (long-plain line plain fits) ∙ plain-taken r number line clear unmark

-- a comment
pub goes-remark : (r : Reading) (number : ℕ) (words : List ℕ) → without 10 words ≡ true → Goes r number (35 ∷ words ++ (10 ∷ [])) r (after number)
unfolding without said
goes-remark r number words one_line =
    subst (λ (u : Reading). Goes r number (35 ∷ words ++ (10 ∷ [])) u (after number)) (read-nothing r number (35 ∷ words) refl) (goes-line r number (without_all 10 (35 ∷ words) one_line))

pub first-all : {P : ℕ → Type 0} {line : List ℕ} → P 0 → All P line → P (get_or line 0 0)
first-all p none = p
first-all p (one q rest) = q

-- a row of numbers
module _ (numbers : List ℕ) (narrow : Narrow numbers) (n : ℕ) (few : n ≤ 6) where
  row-short : length (joined_below (cell_text numbers) n) ≤ 512
  row-short = omega (arith, length-cells numbers narrow n few, columns-most n few)

  pub goes-row : (r : Reading) (number : ℕ) → is_refused r ≡ false → Goes r number (row_text numbers n) (line_read r number (joined_below (cell_text numbers) n)) (after number)
  unfolding row_text
  goes-row r number clear =
      subst (λ (u : Reading). Goes r number (joined_below (cell_text numbers) n ++ (10 ∷ [])) u (after number))
      (read_plain r number (joined_below (cell_text numbers) n) clear (said_plain (row-without numbers n 35 (λ e. omega arith) (inl (omega arith))) false) (first-all refl (row-without numbers n 239 (λ e. omega arith) (inr (omega arith)))) row-short)
      (goes-line r number (row-without numbers n 10 (λ e. omega arith) (inl (omega arith))))
