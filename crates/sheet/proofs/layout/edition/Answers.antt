-- `sheet::layout::edition` meets its contract: the reserved bits are the first byte's low half. Assumes nothing.
use mathlib.Core.Path.{sym}
use Rattle.sheet.proofs.Spelled.{edition-spelled}
use Rattle.sheet.proofs.layout.edition.Goals as goal

pub returns : goal.returns
returns c = sym (edition-spelled _ c.requires (λ k. (c.shared_slice_known-1.given k).fits))
