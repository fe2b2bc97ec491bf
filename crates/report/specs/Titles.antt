-- A line with a task's name after it, before its newline.
use Rattle.std.specs.Prelude.{ℕ, ◌+◌, ◌-◌, Bool, not, ◌&&◌, cond, List, ◌++◌, eqb, leb, length}
use Rattle.report.specs.declared.Line.{Line}
use Rattle.report.specs.Words.{space, newline}
use Rattle.report.specs.Putting.{put}

-- whether a line of a length takes a name of a size: neither is empty, and eighty-eight bytes hold both and the space between them
unfoldable pub takes_name : ℕ → ℕ → Bool
takes_name len size = not (eqb len 0) && (not (eqb size 0) && leb (len + size) 87)

-- the line without its newline
unfoldable pub opened_line : Line → Line
opened_line line = record { bytes = line.bytes; len = line.len - 1 }

-- "lines carry the name after the place": a space and the name before the newline; without a name, or room for it, the line itself
unfoldable pub titled_line : Line → List ℕ → Line
titled_line line name = cond (takes_name line.len (length name)) (put (opened_line line) ((space ++ name) ++ newline)) line
