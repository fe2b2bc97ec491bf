-- `text::unjudged` meets its contract. Assumes nothing.
use Rattle.text.specs.Scaling.{unjudged_by}
use borrow.Author.Tests.{eq-eqb, ne_eqb}
use Rattle.text.proofs.unjudged.Goals as goal

pub returns-then-scale-eq0 : goal.returns-then-scale-eq0
unfolding unjudged_by
returns-then-scale-eq0 c = simp (eq-eqb _ 0 c.if-scale-eq0.true) c.no_table.ensures

pub returns : goal.returns
unfolding unjudged_by
returns c = simp (ne_eqb _ 0 c.if-scale-eq0.false) c.scaled_table.ensures
