-- `sheet::rules::wrong_share` meets its contract. Assumes nothing.
use borrow.Author.Tests.{eq-eqb, ne_eqb}
use Rattle.sheet.specs.Rules.{wrong_share}
use Rattle.sheet.proofs.rules.wrong_share.Goals as goal

pub returns-then-edition-eq0 : goal.returns-then-edition-eq0
unfolding wrong_share
returns-then-edition-eq0 c = simp (eq-eqb _ 0 c.if-edition-eq0.true)

pub returns-then-share-eq0 : goal.returns-then-share-eq0
unfolding wrong_share
returns-then-share-eq0 c = simp (ne_eqb _ 0 c.if-edition-eq0.false, eq-eqb _ 0 c.if-share-eq0.true)

pub returns : goal.returns
unfolding wrong_share
returns c = simp (ne_eqb _ 0 c.if-edition-eq0.false, ne_eqb _ 0 c.if-share-eq0.false)
