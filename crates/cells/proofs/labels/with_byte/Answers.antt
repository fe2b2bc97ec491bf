-- `cells::labels::with_byte` meets its contract. Assumes nothing.
use Rattle.cells.specs.Names.{with_byte}
use borrow.Author.Tests.{eq-eqb, ne_eqb}
use Rattle.cells.proofs.labels.with_byte.Goals as goal

pub returns-then-closes : goal.returns-then-closes
unfolding with_byte
returns-then-closes c = simp (eq-eqb _ 1 c.if-label-eq1.true, ← c.closes.ensures, c.if-closes.true) c.with_stage.ensures

pub returns-then-label-eq1 : goal.returns-then-label-eq1
unfolding with_byte
returns-then-label-eq1 c = simp (eq-eqb _ 1 c.if-label-eq1.true, ← c.closes.ensures, c.if-closes.false)

pub returns-then-is_gap : goal.returns-then-is_gap
unfolding with_byte
returns-then-is_gap c = simp (ne_eqb _ 1 c.if-label-eq1.false, ← c.is_gap.ensures, c.if-is_gap.true)

pub returns-then-label-eq2 : goal.returns-then-label-eq2
unfolding with_byte
returns-then-label-eq2 c = simp (ne_eqb _ 1 c.if-label-eq1.false, ← c.is_gap.ensures, c.if-is_gap.false, eq-eqb _ 2 c.if-label-eq2.true) c.unknown_label.ensures

pub returns-then-opens : goal.returns-then-opens
unfolding with_byte
returns-then-opens c = simp (ne_eqb _ 1 c.if-label-eq1.false, ← c.is_gap.ensures, c.if-is_gap.false, ne_eqb _ 2 c.if-label-eq2.false, ← c.opens.ensures, c.if-opens.true) c.with_stage-then-opens.ensures

pub returns : goal.returns
unfolding with_byte
returns c = simp (ne_eqb _ 1 c.if-label-eq1.false, ← c.is_gap.ensures, c.if-is_gap.false, ne_eqb _ 2 c.if-label-eq2.false, ← c.opens.ensures, c.if-opens.false) c.with_letter.ensures
