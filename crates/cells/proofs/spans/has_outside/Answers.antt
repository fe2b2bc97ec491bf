-- `cells::spans::has_outside` meets its contract: before each turn the bytes from the place on have the wanted one as the whole line has. Assumes nothing.
use mathlib.Core.Path.{sym, ap, ◌∙◌}
use Prim.Native.Nat.{◌+◌}
use native.Mathlib.Omega.{arith}
use lib.ListN.{drop, drop_of_length-le}
use Rattle.cells.specs.Cells.{has_outside}
use Rattle.cells.proofs.Turns.{outside-found, outside-more}
use borrow.Author.Rules.{rules}
use Rattle.cells.proofs.spans.has_outside.Goals as goal

pub returns-then-quoted-byte : goal.returns-then-quoted-byte
unfolding has_outside
returns-then-quoted-byte c = sym (outside-found c.args.line.now c.loop-byte.byte-index (search rules) c.args.wanted c.loop-byte.quoted c.if-quoted-byte.true) ∙ c.loop-byte.invariant.1

pub loop-byte-preserved : goal.loop-byte-preserved
loop-byte-preserved c = (search rules, ap (λ q. has_outside c.args.wanted q (drop (c.loop-byte.byte-index + 1) c.args.line.now)) c.turned-quoted.ensures ∙ sym (outside-more c.args.line.now c.loop-byte.byte-index (search rules) c.args.wanted c.loop-byte.quoted c.if-quoted-byte.false) ∙ c.loop-byte.invariant.1)

pub returns : goal.returns
unfolding has_outside
returns c = sym (ap (has_outside _ _) (drop_of_length-le _ {i = c.loop-byte.byte-index} (omega arith))) ∙ c.loop-byte.invariant.1
