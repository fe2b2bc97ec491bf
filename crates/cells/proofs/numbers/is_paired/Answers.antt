-- `cells::numbers::is_paired` meets its contract: before each turn the bytes from the place on are paired as all of them are. Assumes nothing.
use mathlib.Core.Path.{sym, ap, ◌∙◌}
use Prim.Native.Nat.{◌+◌}
use native.Mathlib.Omega.{arith}
use lib.ListN.{drop, drop_of_length-le}
use Rattle.cells.specs.Numbers.{paired}
use Rattle.cells.proofs.Turns.{pairs_end, pairs-more}
use borrow.Author.Rules.{rules}
use Rattle.cells.proofs.numbers.is_paired.Goals as goal

pub returns-then-odd-byte : goal.returns-then-odd-byte
unfolding paired
returns-then-odd-byte c = sym (pairs_end c.args.bytes.now c.loop-byte.byte-index (search rules) c.loop-byte.odd c.if-odd-byte.true) ∙ c.loop-byte.invariant.1

pub loop-byte-preserved : goal.loop-byte-preserved
loop-byte-preserved c = (search rules, ap (λ q. paired q (drop (c.loop-byte.byte-index + 1) c.args.bytes.now)) c.turned-odd.ensures ∙ sym (pairs-more c.args.bytes.now c.loop-byte.byte-index (search rules) c.loop-byte.odd c.if-odd-byte.false) ∙ c.loop-byte.invariant.1)

pub returns : goal.returns
unfolding paired
returns c = sym (ap (paired _) (drop_of_length-le _ {i = c.loop-byte.byte-index} (omega arith))) ∙ c.loop-byte.invariant.1
