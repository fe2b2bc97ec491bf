-- `rows::tables::fields_of` meets its contract: before each turn the fields below the number are filled. Assumes nothing.
use Rattle.std.proofs.Common.{◌≡◌, ℕ, ◌%◌, List, set, replicate, sym, refl, ap, ◌∙◌, ap₂, arith, rules}
use Rattle.places.specs.Places.{filled_below}
use Rattle.places.proofs.Turns.{fill_more}
use Rattle.rows.specs.Lists.{figure_of}
use Rattle.rows.specs.Tables.{fields_of}
use Rattle.rows.proofs.tables.fields_of.Goals as goal

pub loop-field-init : goal.loop-field-init
unfolding filled_below
loop-field-init c = (search rules, refl)

pub loop-field-preserved : goal.loop-field-preserved
loop-field-preserved c =
    let at = c.loop-field in
    let base = c.args.base.now in
    let value : ℕ → ℕ = λ field. figure_of base 0 field % 65536 in
    (search rules, ap₂ (λ (l : List ℕ) (v : ℕ). set l at.field v) at.invariant.1 (c.short.ensures ∙ ap (λ (n : ℕ). n % 65536) c.figure.ensures) ∙ sym (fill_more value at.field (replicate 53 1)))

pub returns : goal.returns
unfolding fields_of
returns c =
    let at = c.loop-field in
    let base = c.args.base.now in
    let all : at.field ≡ 51 = omega arith in
    at.invariant.1 ∙ ap (λ (n : ℕ). filled_below (λ field. figure_of base 0 field % 65536) n (replicate 53 1)) all
