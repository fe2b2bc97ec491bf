-- `report::composing::told` meets its contract: one text after the other. Assumes nothing.
use Rattle.report.specs.Words.{newline}
use Rattle.report.specs.Texts.{told_text}
use Rattle.report.proofs.Putting.{line-more, line-both}
use Rattle.report.proofs.composing.told.Goals as goal

pub returns : goal.returns
unfolding told_text
returns c =
    let old = line-both _ _ _ c.changed-line.ensures.answer c.with_labelled-line.ensures.answer in
    line-more _ newline (line-both _ _ _ old c.with_labelled-line-2.ensures.answer) c.with_word.ensures
