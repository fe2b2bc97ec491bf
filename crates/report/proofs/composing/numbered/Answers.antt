-- `report::composing::numbered` meets its contract: the newline comes after a word and a number. Assumes nothing.
use Rattle.report.proofs.Putting.{line-more}
use Rattle.report.proofs.composing.numbered.Goals as goal

pub returns : goal.returns
returns c = line-more _ _ c.labelled.ensures.answer c.with_word.ensures
