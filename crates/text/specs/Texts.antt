-- A text: its lines one after the other, and the same byte by byte, as it is read in pieces.
use Rattle.std.specs.Prelude.{ℕ, ◌+◌, true, false, cond, not, ◌&&◌, ◌||◌, List, [], ◌∷◌, eqb, ltb, set, replicate}
use Rattle.cells.specs.Cells.{part_of, turned}
use Rattle.lines.specs.declared.Reading.{Reading}
use Rattle.lines.specs.Troubles.{after, no_reading}
use Rattle.lines.specs.Answers.{line_taken}
use Rattle.text.specs.declared.Scan.{Scan}

-- the text of which nothing is read yet
abbrev pub scan_start : Scan
scan_start = record { reading = no_reading; line = 1; held = 0; quoted = false; comment = false; over = false; bytes = replicate 512 0 }

-- what is held of a line
unfoldable pub held_line : List ℕ → ℕ → List ℕ
held_line bytes held = part_of bytes 0 held

-- what is read with the line that is being gathered
unfoldable pub reading_of : Scan → Reading
reading_of s = line_taken s.reading s.line (held_line s.bytes s.held) s.over

-- the next line
unfoldable pub line_ended : Scan → Scan
line_ended s = record { reading = reading_of s; line = after s.line; held = 0; quoted = false; comment = false; over = false; bytes = s.bytes }

-- "`#` outside quotes begins a comment to the line's end"
unfoldable pub commented : Scan → Scan
commented s = record { reading = s.reading; line = s.line; held = s.held; quoted = s.quoted; comment = true; over = s.over; bytes = s.bytes }

-- one byte more of the line; 512 are held
unfoldable pub holding : Scan → ℕ → Scan
holding s byte =
    cond (ltb s.held 512)
    (record { reading = s.reading; line = s.line; held = s.held + 1; quoted = turned s.quoted byte; comment = s.comment; over = s.over; bytes = set s.bytes s.held byte })
    (record { reading = s.reading; line = s.line; held = s.held; quoted = s.quoted; comment = s.comment; over = true; bytes = s.bytes })

-- a byte of a line
unfoldable pub gathered : Scan → ℕ → Scan
gathered s byte = cond (s.comment || s.over) s (cond (eqb byte 35 && not s.quoted) (commented s) (holding s byte))

-- the scan after a byte: 10 ends the line
unfoldable pub step : Scan → ℕ → Scan
step s byte = cond (eqb byte 10) (line_ended s) (gathered s byte)

-- the scan after some bytes, one after the other
unfoldable pub scanned : Scan → List ℕ → Scan
scanned s [] = s
scanned s (byte ∷ bytes) = scanned (step s byte) bytes
