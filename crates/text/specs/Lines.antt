-- A text as its lines: "`#` outside quotes begins a comment to the line's end", and each line is read for itself.
use Rattle.std.specs.Prelude.{ℕ, Bool, false, cond, not, ◌&&◌, List, [], ◌∷◌, eqb, ltb, length, take}
use Rattle.cells.specs.Cells.{turned}
use Rattle.lines.specs.declared.Reading.{Reading}
use Rattle.lines.specs.declared.Understood.{Understood}
use Rattle.lines.specs.Troubles.{after}
use Rattle.lines.specs.Answers.{line_taken, answer_at}

-- a byte more of the first line
unfoldable pub with_first : ℕ → List (List ℕ) → List (List ℕ)
with_first byte [] = (byte ∷ []) ∷ []
with_first byte (line ∷ lines) = (byte ∷ line) ∷ lines

-- the lines of a text: 10 ends one, and after the last of them there is one more
unfoldable pub lines_of : List ℕ → List (List ℕ)
lines_of [] = [] ∷ []
lines_of (byte ∷ bytes) = cond (eqb byte 10) ([] ∷ lines_of bytes) (with_first byte (lines_of bytes))

-- a line before its comment
unfoldable pub said : Bool → List ℕ → List ℕ
said quoted [] = []
said quoted (byte ∷ bytes) = cond (eqb byte 35 && not quoted) [] (byte ∷ said (turned quoted byte) bytes)

-- "a line holds 512 bytes before its comment"
unfoldable pub held_of : List ℕ → List ℕ
held_of line = take 512 (said false line)

unfoldable pub is_long : List ℕ → Bool
is_long line = ltb 512 (length (said false line))

-- what is read with a line
unfoldable pub read_with : Reading → ℕ → List ℕ → Reading
read_with r number line = line_taken r number (held_of line) (is_long line)

-- what is read line by line is understood as
unfoldable pub answer_of : Reading → ℕ → List (List ℕ) → Understood
answer_of r number [] = answer_at r number []
answer_of r number (line ∷ []) = answer_at (read_with r number line) number (held_of line)
answer_of r number (line ∷ next ∷ lines) = answer_of (read_with r number line) (after number) (next ∷ lines)
