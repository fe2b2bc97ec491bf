-- `sheet::layout::priority_from` meets its contract: the priority is the last byte's high half. Assumes nothing.
use mathlib.Core.Path.{sym, ap}
use Rattle.sheet.specs.declared.Record.{Record}
use Rattle.sheet.proofs.Spelled.{record-spelled}
use Rattle.sheet.proofs.layout.priority_from.Goals as goal

pub returns : goal.returns
returns c = sym (ap (λ (r : Record). r.priority) (record-spelled _ c.requires (λ k. (c.shared_slice_known-1.given k).fits)))
