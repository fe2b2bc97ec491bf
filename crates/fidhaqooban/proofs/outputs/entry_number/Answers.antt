-- `fidhaqooban::outputs::entry_number` meets its contract. Assumes nothing.
use mir.Syntax.{w32}
use mathlib.Core.Path.{ap, ◌∙◌}
use native.Mathlib.Omega.{arith}
use lib.IntN.{pos}
use borrow.Author.Tests.{eq-eqb, ne_eqb}
use mir.Facts.{to_z-of_z, to_z_pos}
use Rattle.fidhaqooban.specs.Numbers.{entry_number}
use Rattle.fidhaqooban.proofs.outputs.entry_number.Goals as goal

pub returns-then-number-eq0 : goal.returns-then-number-eq0
unfolding entry_number
returns-then-number-eq0 c = to_z_pos w32 (omega (arith, c.time_of.ensures.bounded)) ∙ ap pos c.time_of.ensures.answer ∙ simp (eq-eqb _ 0 c.if-number-eq0.true)

pub returns-then-number-eq1 : goal.returns-then-number-eq1
unfolding entry_number
returns-then-number-eq1 c = to_z_pos w32 (omega (arith, c.figures_of.ensures.bounded)) ∙ ap pos c.figures_of.ensures.answer ∙ simp (ne_eqb _ 0 c.if-number-eq0.false, eq-eqb _ 1 c.if-number-eq1.true)

pub returns : goal.returns
unfolding entry_number
returns c = to_z-of_z {w = w32} (record { sfits = c.ticks_of.type_inv }) ∙ c.ticks_of.ensures ∙ simp (ne_eqb _ 0 c.if-number-eq0.false, ne_eqb _ 1 c.if-number-eq1.false)
