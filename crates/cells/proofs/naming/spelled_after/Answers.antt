-- `cells::naming::spelled_after` meets its contract. Assumes nothing.
use Rattle.cells.specs.Names.{spelled_after}
use borrow.Author.Tests.{eq-eqb, ne_eqb}
use Rattle.cells.proofs.naming.spelled_after.Goals as goal

pub returns-then-spelling-ne0 : goal.returns-then-spelling-ne0
unfolding spelled_after
returns-then-spelling-ne0 c = simp (ne_eqb _ 0 c.if-spelling-ne0.true)

pub returns-then-byte-eq34 : goal.returns-then-byte-eq34
unfolding spelled_after
returns-then-byte-eq34 c = simp (eq-eqb _ 0 c.if-spelling-ne0.false, eq-eqb _ 34 c.if-byte-eq34.true) c.spelled_quote.ensures

pub returns-then-is_control : goal.returns-then-is_control
unfolding spelled_after
returns-then-is_control c = simp (eq-eqb _ 0 c.if-spelling-ne0.false, ne_eqb _ 34 c.if-byte-eq34.false, ← c.is_control.ensures, c.if-is_control.true) c.misspelt.ensures

pub returns : goal.returns
unfolding spelled_after
returns c = simp (eq-eqb _ 0 c.if-spelling-ne0.false, ne_eqb _ 34 c.if-byte-eq34.false, ← c.is_control.ensures, c.if-is_control.false) c.spelled_with.ensures
