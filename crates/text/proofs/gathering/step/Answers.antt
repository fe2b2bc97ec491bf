-- `text::gathering::step` meets its contract. Assumes nothing.
use Rattle.text.specs.Texts.{step}
use borrow.Author.Tests.{eq-eqb, ne_eqb}
use Rattle.text.proofs.gathering.step.Goals as goal

pub returns-then-byte-eq10 : goal.returns-then-byte-eq10
unfolding step
returns-then-byte-eq10 c = simp (eq-eqb _ 10 c.if-byte-eq10.true) c.line_ended.ensures

pub returns : goal.returns
unfolding step
returns c = simp (ne_eqb _ 10 c.if-byte-eq10.false) c.gathered.ensures
