-- `analysis::bounding::within::judge` meets its contract. Assumes nothing.
use mathlib.Core.Path.{refl, sym}
use Rattle.places.specs.Refusals.{or_else}
use Rattle.places.proofs.Answered.{ok_answered, err_answered}
use Rattle.sheet.specs.Rules.{outside}
use Rattle.analysis.specs.Bounds.Within.{bounds_refusal}
use Rattle.analysis.proofs.bounding.within.judge.Goals as goal

pub returns-then-count : goal.returns-then-count
unfolding bounds_refusal outside or_else
returns-then-count c = err_answered _ _ (sym (simp c.if-count.true))

pub returns-else-count : goal.returns-else-count
unfolding bounds_refusal outside or_else
returns-else-count c = ok_answered _ _ (simp c.if-count.false) refl
