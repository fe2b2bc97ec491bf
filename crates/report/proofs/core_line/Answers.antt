-- `report::core_line` meets its contract: one text after the other. Assumes nothing.
use Rattle.report.specs.Words.{newline}
use Rattle.report.specs.Texts.{core_text}
use Rattle.report.proofs.Putting.{line-more, line-both}
use Rattle.report.proofs.core_line.Goals as goal

pub returns : goal.returns
unfolding core_text
returns c =
    line-more _ newline (line-both _ _ _ c.labelled-line.ensures.answer c.with_labelled-line.ensures.answer) c.with_word.ensures
