-- `cells::labels::with_letter` meets its contract. Assumes nothing.
use Rattle.cells.specs.Names.{with_letter}
use borrow.Author.Tests.{lt-ltb, le-ltb}
use Rattle.cells.proofs.labels.with_letter.Goals as goal

pub returns-then-length-ge16 : goal.returns-then-length-ge16
unfolding with_letter
returns-then-length-ge16 c = simp (le-ltb _ _ c.if-length-ge16.true) c.unknown_label.ensures

pub returns : goal.returns
unfolding with_letter
returns c = simp (lt-ltb _ _ c.if-length-ge16.false, c.lower.ensures)
