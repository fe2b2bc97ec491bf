-- `rows::say_bytes` meets its contract: before each turn the rest of the bytes is still to be said. Assumes nothing.
use Rattle.std.proofs.Common.{ℕ, Option, ◌+◌, drop, sym, ap, ◌∙◌}
use Rattle.rows.specs.Answers.{text_end, bytes_end}
use Rattle.rows.proofs.Sayings.{bytes-done, bytes_on}
use Rattle.rows.proofs.say_bytes.Goals as goal

pub loop-byte-preserved : goal.loop-byte-preserved
loop-byte-preserved c =
    let at = c.loop-byte in
    let list = c.args.list.now in
    ap (λ (end : Option ℕ). bytes_end list end (drop (at.byte-index + 1) c.args.bytes.now)) (c.say-end.ensures ∙ ap (text_end list at.end) c.hexadecimal-digits.ensures) ∙ bytes_on _ _ _ _ c.loop-byte-test.true ∙ at.invariant

pub returns : goal.returns
returns c = sym (bytes-done _ _ _ _ c.loop-byte-test.false) ∙ c.loop-byte.invariant
