-- `cores::tables::renumber` meets its contract: before each turn the records below are counted. Assumes nothing.
use Prim.Native.Nat.{ℕ, suc, ◌+◌}
use mathlib.Core.Path.{◌≡◌, sym, ap, ◌∙◌}
use mathlib.Core.Bool.{Bool, ◌&&◌}
use native.Mathlib.Omega.{arith}
use lib.Dec.{ltb}
use Rattle.sheet.specs.Layout.{record_at}
use Rattle.cores.specs.Renumbered.{how_many, priority_among}
use Rattle.cores.proofs.Picking.{one_if, many-none, many_more, many-few}
use Rattle.cores.proofs.tables.renumber.Invariants.{lower}
use Rattle.cores.proofs.tables.renumber.Goals as goal

-- a count from 1, and one more
one_more : (before : ℕ) {number one here after : ℕ} → number ≡ 1 + before → one ≡ here → after ≡ before + here → number + one ≡ 1 + after
one_more before a b c = omega arith

pub loop-other-init : goal.loop-other-init
loop-other-init c = (omega arith, sym (ap (λ (n : ℕ). 1 + n) (many-none _)))

pub overflow_add-number : goal.overflow_add-number
overflow_add-number c =
    let at = c.loop-other in
    let given = c.args in
    omega (arith, at.invariant.1, many-few (lower given.table.records given.cores given.place given.core given.priority) at.other, c.one_if-number.ensures.bounded)

pub loop-other-preserved : goal.loop-other-preserved
unfolding record_at
loop-other-preserved c =
    let at = c.loop-other in
    let given = c.args in
    let test = lower given.table.records given.cores given.place given.core given.priority in
    let here : c.joins.result && ltb (record_at given.table.records at.other).priority given.priority ≡ test at.other = ap (λ (b : Bool). b && ltb (record_at given.table.records at.other).priority given.priority) c.joins.ensures in
    (omega arith, one_more (how_many test at.other) at.invariant.1 (c.one_if-number.ensures.answer ∙ ap one_if here) (many_more test at.other))

pub returns : goal.returns
unfolding priority_among
returns c =
    let given = c.args in
    let all : c.loop-other.other ≡ suc given.place = omega arith in
    c.loop-other.invariant.1 ∙ ap (λ (n : ℕ). 1 + how_many (lower given.table.records given.cores given.place given.core given.priority) n) all
