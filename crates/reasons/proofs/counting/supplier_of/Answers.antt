-- `reasons::counting::supplier_of` meets its contract. Assumes nothing.
use Rattle.reasons.specs.Terms.{supplier_term}
use Rattle.reasons.proofs.counting.supplier_of.Goals as goal

pub returns : goal.returns
unfolding supplier_term
returns c = simp c.begun.ensures.same
