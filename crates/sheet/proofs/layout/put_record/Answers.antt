-- `sheet::layout::put_record` meets its contract: four fields and a byte, one after the other. Assumes nothing.
use mathlib.Core.Path.{◌≡◌, ◌∙◌}
use native.Mathlib.Omega.{arith}
use lib.ListN.{length, length-set}
use Rattle.sheet.proofs.Spelled.{Sized}
use Rattle.sheet.proofs.Stores.{record-stored}
use borrow.Author.Rules.{rules}
use Rattle.sheet.proofs.layout.put_record.Goals as goal

pub bounds-out-at : goal.bounds-out-at
bounds-out-at c =
    let length-kept : length c.put_field-4.new.out ≡ length c.args.out.now = c.put_field-4.auto.out ∙ c.put_field-3.auto.out ∙ c.put_field-2.auto.out ∙ c.put_field.auto.out in
    omega (arith, length-kept, c.requires.room)

pub shape_of-out : goal.shape_of-out
shape_of-out c =
    let length-kept : length c.put_field-4.new.out ≡ length c.args.out.now = c.put_field-4.auto.out ∙ c.put_field-3.auto.out ∙ c.put_field-2.auto.out ∙ c.put_field.auto.out in
    simp length-set length-kept

pub returns : goal.returns
returns c =
    let sized : Sized c.args.task = record { cost = search rules; backup = search rules; deadline = search rules; period = search rules; priority = c.requires.priority; fault = c.requires.fault } in
    simp (c.put_field-4.ensures, c.put_field-3.ensures, c.put_field-2.ensures, c.put_field.ensures) (record-stored _ _ c.args.task sized)
