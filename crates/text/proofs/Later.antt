-- Lines further down a text: a text in two parts that meet at a line's end, and the same lines under other numbers. Assumes nothing.
use Prim.Native.Nat.{ℕ, ◌+◌, ◌≤◌}
use mathlib.Core.Path.{◌≡◌, refl, ap, ◌∙◌}
use mathlib.Core.Bool.{Bool, true, false, cond}
use mathlib.Core.List.{List, [], ◌∷◌, ◌++◌}
use native.Mathlib.Omega.{arith}
use borrow.Author.Tests.{ne_eqb, ltb-false}
use lib.Dec.{eqb, ltb}
use Rattle.lines.specs.declared.Reading.{Reading}
use Rattle.lines.specs.Troubles.{after}
use Rattle.lines.specs.Answers.{line_taken}
use Rattle.lines.specs.Moved.{unlined_answer}
use Rattle.lines.proofs.Moved.{Alike, taken-alike, answer-alike}
use Rattle.text.specs.Lines.{with_first, lines_of, held_of, is_long, read_with, answer_of}
use Rattle.text.proofs.Lines.{Some, some, lines-some}

-- a text in two parts that meet at a line's end
pub lines-joined : (a b : List ℕ) → lines_of (a ++ (10 ∷ b)) ≡ lines_of a ++ lines_of b
unfolding lines_of with_first
lines-joined [] b = refl
lines-joined (byte ∷ a) b = ap (λ (l : List (List ℕ)). cond (eqb byte 10) ([] ∷ l) (with_first byte l)) (lines-joined a b) ∙ go (eqb byte 10) (lines-some a)
  where
    go : {lines : List (List ℕ)} (ends : Bool) → Some lines → cond ends ([] ∷ (lines ++ lines_of b)) (with_first byte (lines ++ lines_of b)) ≡ cond ends ([] ∷ lines) (with_first byte lines) ++ lines_of b
    go true s = refl
    go false (some line lines) = refl

-- what is read after some lines, and the next line's number
unfoldable pub read_all : Reading → ℕ → List (List ℕ) → Reading
read_all r number [] = r
read_all r number (line ∷ lines) = read_all (read_with r number line) (after number) lines

unfoldable pub number_after : ℕ → List (List ℕ) → ℕ
number_after number [] = number
number_after number (line ∷ lines) = number_after (after number) lines

pub answer-joined : (lines : List (List ℕ)) (r : Reading) (number : ℕ) {rest : List (List ℕ)} → Some rest → answer_of r number (lines ++ rest) ≡ answer_of (read_all r number lines) (number_after number lines) rest
unfolding answer_of read_all number_after
answer-joined [] r number s = refl
answer-joined (line ∷ []) r number (some next rest) = refl
answer-joined (line ∷ next ∷ lines) r number s = answer-joined (next ∷ lines) (read_with r number line) (after number) s

-- after the first line no line is the first
pub after_two : (n : ℕ) → 1 ≤ n → 2 ≤ after n
unfolding after
after_two n least = go (ltb n 18446744073709551615) refl
  where
    go : (is : Bool) → ltb n 18446744073709551615 ≡ is → 2 ≤ cond is (n + 1) n
    go true e = omega arith
    go false e = omega (arith, ltb-false n 18446744073709551615 e)

number-two : {lines : List (List ℕ)} → Some lines → (n : ℕ) → 1 ≤ n → 2 ≤ number_after n lines
unfolding number_after
number-two (some line lines) n least = go lines (after n) (after_two n least)
  where
    go : (ls : List (List ℕ)) (m : ℕ) → 2 ≤ m → 2 ≤ number_after m ls
    go [] m h = h
    go (l ∷ ls) m h = go ls (after m) (after_two m (omega arith))

pub after-lines : (text : List ℕ) → 2 ≤ number_after 1 (lines_of text)
after-lines text = number-two (lines-some text) 1 (omega arith)

-- the same lines under other numbers
pub answers-alike : {r u : Reading} → Alike r u → (n m : ℕ) → 2 ≤ n → 2 ≤ m → {lines : List (List ℕ)} → Some lines → unlined_answer (answer_of r n lines) ≡ unlined_answer (answer_of u m lines)
unfolding answer_of read_with
answers-alike {r = r} {u = u} alike n m p q (some line []) =
    let e = ne_eqb n 1 (λ z. omega arith) in
    let f = ne_eqb m 1 (λ z. omega arith) in
    answer-alike (taken-alike alike n m e f (held_of line) (is_long line)) n m e f (held_of line)
answers-alike {r = r} {u = u} alike n m p q (some line (next ∷ lines)) =
    answers-alike {r = line_taken r n (held_of line) (is_long line)} {u = line_taken u m (held_of line) (is_long line)} (taken-alike alike n m (ne_eqb n 1 (λ z. omega arith)) (ne_eqb m 1 (λ z. omega arith)) (held_of line) (is_long line)) (after n) (after m) (after_two n (omega arith)) (after_two m (omega arith)) (some next lines)

pub self-alike : (r : Reading) → Alike r r
self-alike r = record { trouble = refl; settings = refl; layout = refl; task = record { numbers = refl; name = refl }; count = refl; tasks = refl }
