-- `mend::listing::noted` meets its contract. Assumes nothing.
use borrow.Author.Tests.{eq-eqb, ne_eqb}
use Rattle.mend.specs.Steps.{noted}
use borrow.Author.Rules.{rules}
use Rattle.mend.proofs.listing.noted.Goals as goal

pub returns-then-change : goal.returns-then-change
unfolding noted
returns-then-change c = record {
  noted = simp (eq-eqb _ _ c.if-change.true);
  few = search rules;
}

pub returns : goal.returns
unfolding noted
returns c = record {
  noted = simp (ne_eqb _ _ c.if-change.false);
  few = search rules;
}
