-- `text::Scan::take` meets its contract: before each turn the bytes from the place on, scanned from the scan so far, are the part scanned from the start. Assumes nothing.
use Prim.Native.Nat.{◌+◌}
use mathlib.Core.Path.{sym, ap, ◌∙◌}
use native.Mathlib.Omega.{arith}
use lib.ListN.{drop, drop_of_length-le}
use Rattle.text.specs.Texts.{scanned}
use Rattle.text.proofs.Turned.{scanned-more}
use borrow.Author.Rules.{rules}
use Rattle.text.proofs.Scan.take.Goals as goal

pub loop-byte-preserved : goal.loop-byte-preserved
loop-byte-preserved c = (search rules, ap (λ s. scanned s (drop (c.loop-byte.byte-index + 1) c.args.part.now)) c.step-scan.ensures ∙ sym (scanned-more c.loop-byte.scan c.args.part.now c.loop-byte.byte-index (search rules)) ∙ c.loop-byte.invariant.1)

pub returns : goal.returns
unfolding scanned
returns c = sym (ap (scanned c.loop-byte.scan) (drop_of_length-le c.args.part.now {i = c.loop-byte.byte-index} (omega arith))) ∙ c.loop-byte.invariant.1
