-- `cells::labels::setting_named` meets its contract. Assumes nothing.
use Rattle.cells.specs.Names.{setting_named}
use Rattle.cells.proofs.labels.setting_named.Goals as goal

pub returns-then-is_named : goal.returns-then-is_named
unfolding setting_named
returns-then-is_named c = simp (← c.is_named.ensures, ← c.is_named-2.ensures, c.if-is_named.true)

pub returns-then-is_named-2 : goal.returns-then-is_named-2
unfolding setting_named
returns-then-is_named-2 c = simp (← c.is_named.ensures, ← c.is_named-2.ensures, c.if-is_named.false, ← c.is_named-3.ensures, ← c.is_named-4.ensures, c.if-is_named-2.true)

pub returns-then-is_named-3 : goal.returns-then-is_named-3
unfolding setting_named
returns-then-is_named-3 c = simp (← c.is_named.ensures, ← c.is_named-2.ensures, c.if-is_named.false, ← c.is_named-3.ensures, ← c.is_named-4.ensures, c.if-is_named-2.false, ← c.is_named-5.ensures, ← c.is_named-6.ensures, c.if-is_named-3.true)

pub returns : goal.returns
unfolding setting_named
returns c = simp (← c.is_named.ensures, ← c.is_named-2.ensures, c.if-is_named.false, ← c.is_named-3.ensures, ← c.is_named-4.ensures, c.if-is_named-2.false, ← c.is_named-5.ensures, ← c.is_named-6.ensures, c.if-is_named-3.false)
