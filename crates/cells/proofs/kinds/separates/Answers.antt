-- `cells::kinds::separates` meets its contract. Assumes nothing.
use Rattle.cells.specs.Kinds.{separates}
use borrow.Author.Tests.{eq-eqb, ne_eqb}
use Rattle.cells.proofs.kinds.separates.Goals as goal

pub returns-then-separator-eq0 : goal.returns-then-separator-eq0
unfolding separates
returns-then-separator-eq0 c = simp (eq-eqb _ 0 c.if-separator-eq0.true) c.is_loose.ensures

pub returns-then-separator-eq32 : goal.returns-then-separator-eq32
unfolding separates
returns-then-separator-eq32 c = simp (ne_eqb _ 0 c.if-separator-eq0.false, eq-eqb _ 32 c.if-separator-eq32.true) c.is_blank.ensures

pub returns : goal.returns
unfolding separates
returns c = simp (ne_eqb _ 0 c.if-separator-eq0.false, ne_eqb _ 32 c.if-separator-eq32.false)
