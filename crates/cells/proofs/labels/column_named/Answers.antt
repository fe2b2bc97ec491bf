-- `cells::labels::column_named` meets its contract. Assumes nothing.
use Rattle.cells.specs.Names.{column_named}
use Rattle.cells.proofs.labels.column_named.Goals as goal

pub returns-then-is_named : goal.returns-then-is_named
unfolding column_named
returns-then-is_named c = simp (← c.is_named.ensures, ← c.is_named-2.ensures, c.if-is_named.true)

pub returns-then-is_named-2 : goal.returns-then-is_named-2
unfolding column_named
returns-then-is_named-2 c = simp (← c.is_named.ensures, ← c.is_named-2.ensures, c.if-is_named.false, ← c.is_named-3.ensures, ← c.is_named-4.ensures, ← c.is_named-5.ensures, c.if-is_named-2.true)

pub returns-then-is_named-3 : goal.returns-then-is_named-3
unfolding column_named
returns-then-is_named-3 c = simp (← c.is_named.ensures, ← c.is_named-2.ensures, c.if-is_named.false, ← c.is_named-3.ensures, ← c.is_named-4.ensures, ← c.is_named-5.ensures, c.if-is_named-2.false, ← c.is_named-6.ensures, ← c.is_named-7.ensures, c.if-is_named-3.true)

pub returns-then-is_named-4 : goal.returns-then-is_named-4
unfolding column_named
returns-then-is_named-4 c = simp (← c.is_named.ensures, ← c.is_named-2.ensures, c.if-is_named.false, ← c.is_named-3.ensures, ← c.is_named-4.ensures, ← c.is_named-5.ensures, c.if-is_named-2.false, ← c.is_named-6.ensures, ← c.is_named-7.ensures, c.if-is_named-3.false, ← c.is_named-8.ensures, ← c.is_named-9.ensures, c.if-is_named-4.true)

pub returns-then-is_named-5 : goal.returns-then-is_named-5
unfolding column_named
returns-then-is_named-5 c = simp (← c.is_named.ensures, ← c.is_named-2.ensures, c.if-is_named.false, ← c.is_named-3.ensures, ← c.is_named-4.ensures, ← c.is_named-5.ensures, c.if-is_named-2.false, ← c.is_named-6.ensures, ← c.is_named-7.ensures, c.if-is_named-3.false, ← c.is_named-8.ensures, ← c.is_named-9.ensures, c.if-is_named-4.false, ← c.is_named-10.ensures, ← c.is_named-11.ensures, c.if-is_named-5.true)

pub returns-then-is_named-6 : goal.returns-then-is_named-6
unfolding column_named
returns-then-is_named-6 c = simp (← c.is_named.ensures, ← c.is_named-2.ensures, c.if-is_named.false, ← c.is_named-3.ensures, ← c.is_named-4.ensures, ← c.is_named-5.ensures, c.if-is_named-2.false, ← c.is_named-6.ensures, ← c.is_named-7.ensures, c.if-is_named-3.false, ← c.is_named-8.ensures, ← c.is_named-9.ensures, c.if-is_named-4.false, ← c.is_named-10.ensures, ← c.is_named-11.ensures, c.if-is_named-5.false, ← c.is_named-12.ensures, ← c.is_named-13.ensures, c.if-is_named-6.true)

pub returns-then-is_named-7 : goal.returns-then-is_named-7
unfolding column_named
returns-then-is_named-7 c = simp (← c.is_named.ensures, ← c.is_named-2.ensures, c.if-is_named.false, ← c.is_named-3.ensures, ← c.is_named-4.ensures, ← c.is_named-5.ensures, c.if-is_named-2.false, ← c.is_named-6.ensures, ← c.is_named-7.ensures, c.if-is_named-3.false, ← c.is_named-8.ensures, ← c.is_named-9.ensures, c.if-is_named-4.false, ← c.is_named-10.ensures, ← c.is_named-11.ensures, c.if-is_named-5.false, ← c.is_named-12.ensures, ← c.is_named-13.ensures, c.if-is_named-6.false, ← c.is_named-14.ensures, ← c.is_named-15.ensures, c.if-is_named-7.true)

pub returns : goal.returns
unfolding column_named
returns c = simp (← c.is_named.ensures, ← c.is_named-2.ensures, c.if-is_named.false, ← c.is_named-3.ensures, ← c.is_named-4.ensures, ← c.is_named-5.ensures, c.if-is_named-2.false, ← c.is_named-6.ensures, ← c.is_named-7.ensures, c.if-is_named-3.false, ← c.is_named-8.ensures, ← c.is_named-9.ensures, c.if-is_named-4.false, ← c.is_named-10.ensures, ← c.is_named-11.ensures, c.if-is_named-5.false, ← c.is_named-12.ensures, ← c.is_named-13.ensures, c.if-is_named-6.false, ← c.is_named-14.ensures, ← c.is_named-15.ensures, c.if-is_named-7.false)
