-- `sheet::layout::interval` meets its contract: the interval is the second byte and the third. Assumes nothing.
use mathlib.Core.Path.{sym, ◌∙◌}
use Rattle.sheet.proofs.Spelled.{interval-spelled}
use Rattle.sheet.proofs.layout.interval.Goals as goal

pub returns : goal.returns
returns c = c.field.ensures ∙ sym (interval-spelled _ c.requires (λ k. (c.shared_slice_known-1.given k).fits))
