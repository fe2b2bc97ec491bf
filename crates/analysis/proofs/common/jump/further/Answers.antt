-- `analysis::common::jump::further` meets its contract. Assumes nothing.
use mathlib.Core.Path.{◌∙◌, sym}
use borrow.Author.Tests.{lt-ltb, le-ltb, le-leb, lt-leb}
use Rattle.analysis.specs.Common.Rounding.{up}
use Rattle.analysis.specs.Common.Jump.{further_of}
use Rattle.analysis.proofs.common.jump.further.Goals as goal

pub returns-then-rest-paid : goal.returns-then-rest-paid
unfolding further_of
returns-then-rest-paid c = simp (le-ltb _ _ c.if-rest-paid.true)

pub returns-then-rate-ge-UNIT : goal.returns-then-rate-ge-UNIT
unfolding further_of
returns-then-rate-ge-UNIT c = c.max.ensures ∙ sym (simp (lt-ltb _ _ c.if-rest-paid.false, le-leb _ _ c.if-rate-ge-UNIT.true))

pub returns : goal.returns
unfolding further_of up
returns c = c.max-2.ensures ∙ sym (simp (lt-ltb _ _ c.if-rest-paid.false, lt-leb _ _ c.if-rate-ge-UNIT.false))
