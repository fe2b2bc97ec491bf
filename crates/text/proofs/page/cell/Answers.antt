-- `text::page::cell` meets its contract: before each turn the digits after those of the rest stand at the right end. Assumes nothing.
use Prim.Native.Nat.{ℕ, suc, ◌-◌, ◌≤◌}
use mathlib.Core.Path.{◌≡◌, subst}
use native.Mathlib.Omega.{arith}
use Rattle.text.proofs.Aligned.{Cell, cell-begun, cell-more, cell-done, cell_room, short}
use borrow.Author.Rules.{rules}
use Rattle.text.proofs.page.cell.Goals as goal

pub loop-rest-init : goal.loop-rest-init
loop-rest-init c = cell-begun c.args.number

pub overflow_sub-place : goal.overflow_sub-place
overflow_sub-place c =
    let room : 1 ≤ c.loop-rest.place = cell_room c.args.number c.loop-rest.bytes c.loop-rest.place c.loop-rest.rest c.loop-rest.invariant (search rules) (omega (arith, c.loop-rest-test.true)) in
    room

pub loop-rest-smaller : goal.loop-rest-smaller
loop-rest-smaller c =
    let room : 1 ≤ c.loop-rest.place = cell_room c.args.number c.loop-rest.bytes c.loop-rest.place c.loop-rest.rest c.loop-rest.invariant (search rules) (omega (arith, c.loop-rest-test.true)) in
    omega (arith, room)

pub loop-rest-preserved : goal.loop-rest-preserved
loop-rest-preserved c =
    let room : 1 ≤ c.loop-rest.place = cell_room c.args.number c.loop-rest.bytes c.loop-rest.place c.loop-rest.rest c.loop-rest.invariant (search rules) (omega (arith, c.loop-rest-test.true)) in
    let at = c.loop-rest in
    let number = c.args.number in
    let next : at.place ≡ suc (at.place - 1) = omega (arith, room) in
    cell-more number at.bytes (at.place - 1) at.rest (subst (λ (n : ℕ). Cell number at.bytes n at.rest) next at.invariant) (omega (arith, c.loop-rest-test.true))

pub returns : goal.returns
returns c = (cell-done _ _ _ _ c.loop-rest.invariant c.loop-rest-test.false, short _ (search rules))
