-- What the code puts a line together with: text after what a line holds, where there is room. An inner device; no public promise cites it.
use Rattle.std.specs.Prelude.{ℕ, ◌+◌, ◌≤◌, List, length}
use Rattle.std.proofs.lemmas.List.Edits.{sets}
use Rattle.report.specs.declared.Line.{Line}

-- there is room for so many more bytes
abbrev pub Room : Line → ℕ → Type 0
Room line more = line.len + more ≤ 88

-- the line with a text after what it holds
unfoldable pub put : Line → List ℕ → Line
put line text = record { bytes = sets line.bytes line.len text; len = line.len + length text }
