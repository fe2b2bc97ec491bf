-- `report::composing::begun` meets its contract: the word is put at the start of no text. Assumes nothing.
use mathlib.Core.Path.{◌∙◌}
use Rattle.report.proofs.Putting.{put_first}
use Rattle.report.proofs.composing.begun.Goals as goal

pub returns : goal.returns
returns c = c.with_word.ensures ∙ put_first _
