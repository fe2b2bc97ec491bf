-- `cells::numbers::content_of` meets its contract. Assumes nothing.
use Rattle.cells.specs.Numbers.{content_of}
use borrow.Author.Tests.{lt-ltb, le-ltb}
use Rattle.cells.proofs.numbers.content_of.Goals as goal

pub returns-then-cell-lt2 : goal.returns-then-cell-lt2
unfolding content_of
returns-then-cell-lt2 c = simp (lt-ltb _ _ c.if-cell-lt2.true)

pub returns-then-is_quoted : goal.returns-then-is_quoted
unfolding content_of
returns-then-is_quoted c = simp (le-ltb _ _ c.if-cell-lt2.false, ← c.is_quoted.ensures, c.if-is_quoted.true) c.between.ensures

pub returns : goal.returns
unfolding content_of
returns c = simp (le-ltb _ _ c.if-cell-lt2.false, ← c.is_quoted.ensures, c.if-is_quoted.false)
