-- `text::scaling::scaled` meets its contract. Assumes nothing.
use Rattle.text.specs.Scaling.{scaled_by}
use borrow.Author.Tests.{eq-eqb, ne_eqb}
use Rattle.text.proofs.scaling.scaled.Goals as goal

pub returns-then-scale-eq0 : goal.returns-then-scale-eq0
unfolding scaled_by
returns-then-scale-eq0 c = simp (eq-eqb _ 0 c.if-scale-eq0.true) c.not_scaled.ensures

pub returns-then-least-scale : goal.returns-then-least-scale
unfolding scaled_by
returns-then-least-scale c = simp (ne_eqb _ 0 c.if-scale-eq0.false, ← c.least_scale-least.ensures, c.if-least-scale.true) c.not_scaled-then-least-scale.ensures

pub returns : goal.returns
unfolding scaled_by
returns c = simp (ne_eqb _ 0 c.if-scale-eq0.false, ← c.least_scale-least.ensures, c.if-least-scale.false) c.scaled_fit.ensures
