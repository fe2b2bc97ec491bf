-- What each public call answers, refusals included, and what it leaves in the lent output.
use Rattle.std.specs.Prelude.{ℕ, cond, List, ◌++◌, eqb, ltb, length, drop}
use Rattle.places.specs.Refusals.{or_else}
use Rattle.sheet.specs.declared.Table.{Table}
use Rattle.sheet.specs.Rules.{table_refusal}
use Rattle.lines.specs.declared.Understood.{Understood}
use Rattle.lines.specs.Answers.{answer_at}
use Rattle.text.specs.declared.Scan.{Scan}
use Rattle.text.specs.declared.Shown.{Shown}
use Rattle.text.specs.Texts.{scan_start, held_line, reading_of, scanned}
use Rattle.text.specs.Shown.{text_size, shown_text}

-- `finish`: the answer of a scan whose text ends
unfoldable pub understood : Scan → Understood
understood s = answer_at (reading_of s) s.line (held_line s.bytes s.held)

-- `read`: the answer of a whole text
unfoldable pub read_answer : List ℕ → Understood
read_answer text = understood (scanned scan_start text)

-- the refusal of showing a table: its own, then 11, "the lent output is shorter than what is to be written"
unfoldable pub show_refusal : Table → List ℕ → ℕ
show_refusal t out = or_else (table_refusal t) (cond (ltb (length out) (text_size t)) 11 0)

-- `show`: the refusal beside the number of bytes written
unfoldable pub show_answer : Table → List ℕ → Shown
show_answer t out = record { refusal = show_refusal t out; size = cond (eqb (show_refusal t out) 0) (text_size t) 0 }

-- the output after `show`: the text and then the bytes as they were, or all of it as it was
unfoldable pub show_leaves : Table → List ℕ → List ℕ
show_leaves t out = cond (eqb (show_refusal t out) 0) (shown_text t ++ drop (text_size t) out) out
