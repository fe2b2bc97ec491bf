-- A line's text in an output: whether it has room from a place on, where it ends, and what the output holds after it.
use Rattle.std.specs.Prelude.{ℕ, ◌+◌, Bool, cond, List, leb, length, take}
use Rattle.std.proofs.lemmas.List.Edits.{sets}
use Rattle.report.specs.declared.Line.{Line}

-- a line's text: all of the bytes where the length is above theirs
unfoldable pub text_of : Line → List ℕ
text_of line = take line.len line.bytes

-- whether the text has room in an output from a place on
unfoldable pub has_room : Line → List ℕ → ℕ → Bool
has_room line out at = leb (at + length (text_of line)) (length out)

-- `put_line`: where the text ends, or the place itself where it has no room
unfoldable pub put_end : Line → List ℕ → ℕ → ℕ
put_end line out at = cond (has_room line out at) (at + length (text_of line)) at

-- the output after it: the text from the place on and the rest as it was, or all of it as it was
unfoldable pub put_leaves : Line → List ℕ → ℕ → List ℕ
put_leaves line out at = cond (has_room line out at) (sets out at (text_of line)) out
