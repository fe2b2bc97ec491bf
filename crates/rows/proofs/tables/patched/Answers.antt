-- `rows::tables::patched` meets its contract: before each turn the pairs so far are replaced. Assumes nothing.
use Rattle.std.proofs.Common.{◌≡◌, ℕ, ◌+◌, ◌*◌, ◌%◌, List, set, refl, ap, ◌∙◌, ap₂, add-one, arith, rules}
use Rattle.rows.specs.Lists.{figure_of}
use Rattle.rows.specs.Tables.{slot_of, replaced_to, patched_by}
use Rattle.rows.proofs.tables.patched.Goals as goal

pub loop-pair-init : goal.loop-pair-init
unfolding replaced_to
loop-pair-init c = (search rules, refl)

pub bounds-fields-field : goal.bounds-fields-field
bounds-fields-field c = c.slot-field.ensures.bounded

pub loop-pair-preserved : goal.loop-pair-preserved
unfolding replaced_to
loop-pair-preserved c =
    let at = c.loop-pair in
    let given = c.args in
    let which = given.first % 256 + 2 * at.pair in
    let field = slot_of (figure_of given.list.now given.start which) in
    let value = figure_of given.list.now given.start (which + 1) % 65536 in
    (search rules, rw (add-one at.pair) (ap₂ (λ (k v : ℕ). set at.fields k v) (c.slot-field.ensures.answer ∙ ap slot_of c.figure.ensures) (c.short.ensures ∙ ap (λ (n : ℕ). n % 65536) c.figure-in-loop-pair.ensures) ∙ ap (λ (l : List ℕ). set l field value) at.invariant.1))

pub returns : goal.returns
unfolding patched_by
returns c =
    let at = c.loop-pair in
    let given = c.args in
    let all : at.pair ≡ 8 = omega arith in
    at.invariant.1 ∙ ap (replaced_to given.base given.list.now given.start (given.first % 256)) all
