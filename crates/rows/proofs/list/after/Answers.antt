-- `rows::list::after` meets its contract: before each turn the byte is still to be found from the place on. Assumes nothing.
use Rattle.std.proofs.Common.{◌≡◌, sym, refl, ◌∙◌}
use native.Mathlib.Omega.{arith}
use Rattle.rows.proofs.Places.{after-end, after-here, after_on}
use Rattle.rows.proofs.list.after.Goals as goal

pub loop-place-init : goal.loop-place-init
loop-place-init c = (omega arith, refl)

pub returns-then-list-place : goal.returns-then-list-place
returns-then-list-place c = sym (after-here _ _ _ c.loop-place-test.true c.if-list-place.true) ∙ c.loop-place.invariant.1

pub loop-place-preserved : goal.loop-place-preserved
loop-place-preserved c = (omega arith, after_on _ _ _ c.loop-place-test.true c.if-list-place.false ∙ c.loop-place.invariant.1)

pub returns : goal.returns
returns c =
    let reached : c.max.result ≡ c.loop-place.place = omega arith in
    reached ∙ sym (after-end _ _ _ c.loop-place-test.false) ∙ c.loop-place.invariant.1
