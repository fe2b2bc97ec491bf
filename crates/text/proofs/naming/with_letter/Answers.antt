-- `text::naming::with_letter` meets its contract. Assumes nothing.
use borrow.Author.Tests.{eq-eqb, ne_eqb}
use Rattle.text.specs.Named.{with_letter}
use Rattle.text.proofs.naming.with_letter.Goals as goal

pub returns-then-byte-eq34 : goal.returns-then-byte-eq34
unfolding with_letter
returns-then-byte-eq34 c = simp (eq-eqb _ 34 c.if-byte-eq34.true, ← c.with_ink.ensures) c.with_ink-then-byte-eq34.ensures

pub returns : goal.returns
unfolding with_letter
returns c = simp (ne_eqb _ 34 c.if-byte-eq34.false) c.with_ink-2.ensures
