-- `rows::list::figure` meets its contract: before each turn the place is that of the figure reached. Assumes nothing.
use Rattle.std.proofs.Common.{◌≡◌, ℕ, ◌<◌, ◌≤◌, sym, refl, ap, ◌∙◌, add-one, arith, rules, le-ltb, lt-ltb}
use Rattle.rows.specs.declared.list.Digits.{Digits}
use Rattle.rows.specs.Lists.{after, number_at, field_at, figure_of}
use Rattle.rows.proofs.list.figure.Goals as goal

pub loop-passed-init : goal.loop-passed-init
unfolding field_at
loop-passed-init c = (search rules, refl)

pub loop-passed-preserved : goal.loop-passed-preserved
unfolding field_at
loop-passed-preserved c =
    let list = c.args.list.now in
    (search rules, rw add-one (c.after-place.ensures ∙ ap (λ (place : ℕ). after list place 32) c.loop-passed.invariant.1))

pub returns-then-place-after : goal.returns-then-place-after
unfolding figure_of
returns-then-place-after c =
    let field : let given = c.args in c.loop-passed.place ≡ field_at given.list.now given.start given.which = (
    let given = c.args in
    let all : c.loop-passed.passed ≡ given.which = omega arith in
    c.loop-passed.invariant.1 ∙ ap (field_at given.list.now given.start) all
    ) in
    let given = c.args in
    let inside : field_at given.list.now given.start given.which < after given.list.now given.start 124 = omega (arith, field, c.after.ensures) in
    ap (λ (read : Digits). read.value) (c.number-read.ensures ∙ ap (number_at given.list.now) field) ∙ sym (simp (lt-ltb _ _ inside))

pub returns-else-place-after : goal.returns-else-place-after
unfolding figure_of
returns-else-place-after c =
    let field : let given = c.args in c.loop-passed.place ≡ field_at given.list.now given.start given.which = (
    let given = c.args in
    let all : c.loop-passed.passed ≡ given.which = omega arith in
    c.loop-passed.invariant.1 ∙ ap (field_at given.list.now given.start) all
    ) in
    let given = c.args in
    let outside : after given.list.now given.start 124 ≤ field_at given.list.now given.start given.which = omega (arith, field, c.after.ensures) in
    sym (simp (le-ltb _ _ outside))
