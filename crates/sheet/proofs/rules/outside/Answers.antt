-- `sheet::rules::outside` meets its contract. Assumes nothing.
use borrow.Author.Tests.{eq-eqb, ne_eqb}
use Rattle.sheet.specs.Rules.{outside}
use Rattle.sheet.proofs.rules.outside.Goals as goal

pub returns-then-x-eq0 : goal.returns-then-x-eq0
unfolding outside
returns-then-x-eq0 c = simp (eq-eqb _ _ c.if-x-eq0.true)

pub returns : goal.returns
unfolding outside
returns c = simp (ne_eqb _ _ c.if-x-eq0.false)
