-- `sheet::layout::put_header` meets its contract: the count beside the edition, the interval, and in the new edition the round and the share. Assumes nothing.
use Prim.Native.Nat.{◌≤◌, ◌<◌}
use mathlib.Core.Path.{◌≡◌, ◌∙◌}
use native.Mathlib.Omega.{arith}
use lib.ListN.{length, length-set}
use Rattle.sheet.proofs.Editions.{edition-low}
use Rattle.sheet.proofs.Stores.{old-stored, new-stored}
use borrow.Author.Rules.{rules}
use Rattle.sheet.proofs.layout.put_header.Goals as goal

pub overflow_add-out : goal.overflow_add-out
overflow_add-out c =
    let given = c.args.table in
    omega (arith, c.edition_for-edition.ensures, edition-low given.round given.share, c.requires.few)

pub put_field-requires : goal.put_field-requires
put_field-requires c = simp length-set (omega arith)

pub shape_of-out-then-edition-eq0 : goal.shape_of-out-then-edition-eq0
shape_of-out-then-edition-eq0 c =
    let kept : length c.put_field.new.out ≡ length c.args.out.now = c.put_field.auto.out ∙ simp length-set in
    kept

pub returns-then-edition-eq0 : goal.returns-then-edition-eq0
returns-then-edition-eq0 c =
    let narrow : let t = c.args.table in (t.interval < 65536) × (t.round < 65536) × (t.share < 65536) = search rules in
    let fields = narrow in
    c.put_field.ensures
    ∙ old-stored c.args.out.now c.args.table fields.0 fields.1 fields.2 c.edition_for-edition.result c.edition_for-edition.ensures c.if-edition-eq0.true

pub put_field-requires-2 : goal.put_field-requires-2
put_field-requires-2 c =
    let kept : length c.put_field.new.out ≡ length c.args.out.now = c.put_field.auto.out ∙ simp length-set in
    let is-new : c.edition_for-edition.result ≡ 1 = (
    let given = c.args.table in
    let other = c.if-edition-eq0.false in
    omega (arith, c.edition_for-edition.ensures, edition-low given.round given.share)
    ) in
    let long : 7 ≤ length c.put_field.new.out = omega (arith, is-new, c.edition_for-edition.ensures, kept, c.requires.room) in
    omega (arith, long)

pub put_field-requires-3 : goal.put_field-requires-3
put_field-requires-3 c =
    let kept : length c.put_field.new.out ≡ length c.args.out.now = c.put_field.auto.out ∙ simp length-set in
    let is-new : c.edition_for-edition.result ≡ 1 = (
    let given = c.args.table in
    let other = c.if-edition-eq0.false in
    omega (arith, c.edition_for-edition.ensures, edition-low given.round given.share)
    ) in
    let long : 7 ≤ length c.put_field.new.out = omega (arith, is-new, c.edition_for-edition.ensures, kept, c.requires.room) in
    omega (arith, long, c.put_field-2.auto.out)

pub shape_of-out : goal.shape_of-out
shape_of-out c =
    let kept : length c.put_field.new.out ≡ length c.args.out.now = c.put_field.auto.out ∙ simp length-set in
    c.put_field-3.auto.out ∙ c.put_field-2.auto.out ∙ kept

pub returns : goal.returns
returns c =
    let narrow : let t = c.args.table in (t.interval < 65536) × (t.round < 65536) × (t.share < 65536) = search rules in
    let is-new : c.edition_for-edition.result ≡ 1 = (
    let given = c.args.table in
    let other = c.if-edition-eq0.false in
    omega (arith, c.edition_for-edition.ensures, edition-low given.round given.share)
    ) in
    let fields = narrow in
    simp (c.put_field-3.ensures, c.put_field-2.ensures, c.put_field.ensures)
    (new-stored c.args.out.now c.args.table fields.0 fields.1 fields.2 c.edition_for-edition.result c.edition_for-edition.ensures is-new)
