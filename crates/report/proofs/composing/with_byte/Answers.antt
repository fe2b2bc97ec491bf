-- `report::composing::with_byte` meets its contract: one store. Assumes nothing.
use Rattle.report.specs.Putting.{put}
use borrow.Author.Rules.{rules}
use Rattle.report.proofs.composing.with_byte.Goals as goal

pub returns : goal.returns
unfolding put
returns c = search rules
