-- `cells::spans::within` meets its contract. Assumes nothing.
use Rattle.cells.specs.Cells.{within}
use Rattle.cells.proofs.spans.within.Goals as goal

pub returns-then-is_empty : goal.returns-then-is_empty
unfolding within
returns-then-is_empty c = simp (← c.is_blank.ensures, c.if-is_blank-span.true, ← c.is_empty.ensures, c.if-is_empty.true) c.empty_at.ensures

pub returns-then-is_blank-span : goal.returns-then-is_blank-span
unfolding within
returns-then-is_blank-span c = simp (← c.is_blank.ensures, c.if-is_blank-span.true, ← c.is_empty.ensures, c.if-is_empty.false)

pub returns : goal.returns
unfolding within
returns c = simp (← c.is_blank.ensures, c.if-is_blank-span.false) c.grown.ensures
