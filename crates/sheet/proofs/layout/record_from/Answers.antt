-- `sheet::layout::record_from` meets its contract: each field is the bytes that the layout gives it. Assumes nothing.
use Rattle.sheet.proofs.Spelled.{record-spelled}
use Rattle.sheet.proofs.layout.record_from.Goals as goal

pub returns : goal.returns
returns c =
    let spelled = record-spelled c.args.part.now c.requires (λ k. (c.shared_slice_known-2-1.given k).fits) in
    simp (c.field.ensures, c.field-2.ensures, c.field-3.ensures, c.field-4.ensures, c.priority_from.ensures, spelled)
