-- `sheet::layout::count` meets its contract: the count is the first byte's high half. Assumes nothing.
use mathlib.Core.Path.{sym}
use Rattle.sheet.proofs.Spelled.{count-spelled}
use Rattle.sheet.proofs.layout.count.Goals as goal

pub returns : goal.returns
returns c = sym (count-spelled _ c.requires (λ k. (c.shared_slice_known-1.given k).fits))
