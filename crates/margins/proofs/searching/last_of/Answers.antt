-- `margins::searching::last_of` meets its contract. Assumes nothing.
use Prim.Native.Nat.{◌≤◌}
use mathlib.Core.Path.{sym, ap, ◌∙◌, subst}
use native.Mathlib.Omega.{arith}
use Rattle.sheet.specs.Layout.{record_at}
use Rattle.margins.specs.declared.changing.Change.{Change}
use Rattle.margins.specs.Margins.{last_of}
use Rattle.margins.specs.Fitted.{InRoom, Placed}
use Rattle.margins.proofs.searching.last_of.Goals as goal

pub offset_bounds-table-place : goal.offset_bounds-table-place
offset_bounds-table-place c =
    let placed = subst (Placed c.args.table) c.in-One.is c.requires.placed in
    omega (arith, placed, c.requires.few)

pub bounds-table-place : goal.bounds-table-place
bounds-table-place c =
    let placed = subst (Placed c.args.table) c.in-One.is c.requires.placed in
    omega (arith, placed, c.requires.few)

pub returns-in-One : goal.returns-in-One
unfolding last_of record_at
returns-in-One c =
    let args = c.args in
    let known = c.in-One.is in
    (c.last_field.ensures.0 ∙ sym (ap (last_of args.table) known), subst (λ (x : Change). InRoom x c.last_field.result) (sym known) c.last_field.ensures.1)

pub returns-in-All : goal.returns-in-All
unfolding last_of
returns-in-All c =
    let args = c.args in
    let known = c.in-All.is in
    let most : 65535000 ≤ 65535000 = omega arith in
    (sym (ap (last_of args.table) known), subst (λ (x : Change). InRoom x 65535000) (sym known) most)
