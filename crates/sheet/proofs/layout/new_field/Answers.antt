-- `sheet::layout::new_field` meets its contract: the field is two bytes from the fourth on, or 1. Assumes nothing.
use Prim.Native.Nat.{◌≤◌}
use mathlib.Core.Path.{◌≡◌, sym, ◌∙◌}
use native.Mathlib.Omega.{arith}
use lib.ListN.{length}
use Rattle.sheet.specs.Layout.{edition_of, start_of}
use Rattle.sheet.proofs.Spelled.{new-spelled}
use Rattle.sheet.proofs.Return.{old-field}
use Rattle.sheet.proofs.layout.new_field.Goals as goal

pub returns-then-edition-eq0 : goal.returns-then-edition-eq0
returns-then-edition-eq0 c = sym (old-field _ (sym c.edition.ensures ∙ c.if-edition-eq0.true) _)

pub field-requires : goal.field-requires
unfolding start_of
field-requires c =
    let is-new : edition_of c.args.sheet.now ≡ 1 = (
    let some = c.if-edition-eq0.false in
    omega (arith, c.edition.ensures, c.requires.known)
    ) in
    let long : 7 ≤ length c.args.sheet.now = omega (arith, is-new, c.requires.header) in
    omega (arith, long, c.requires.new)

pub returns : goal.returns
unfolding start_of
returns c =
    let is-new : edition_of c.args.sheet.now ≡ 1 = (
    let some = c.if-edition-eq0.false in
    omega (arith, c.edition.ensures, c.requires.known)
    ) in
    let long : 7 ≤ length c.args.sheet.now = omega (arith, is-new, c.requires.header) in
    c.field.ensures ∙ sym (new-spelled _ is-new long (λ k. (c.shared_slice_known-1.given k).fits) _ c.requires.new)
