-- `rows::say_bytes` meets its contract: before each turn the rest of the bytes is still to be said. Assumes nothing.
use Rattle.std.proofs.Common.{◌≡◌, drop}
use Rattle.rows.specs.Answers.{bytes_end}
use Rattle.rows.proofs.say_bytes.Given as goal

abbrev pub invariant-loop-byte : goal.invariant-loop-byte
invariant-loop-byte l = bytes_end l.list l.end (drop l.byte-index l.bytes) ≡ bytes_end l.list l.fn.at l.bytes
