-- `report::refused_at_line` meets its contract: one text after the other. Assumes nothing.
use Rattle.report.specs.Words.{newline}
use Rattle.report.specs.Texts.{refused_at_text}
use Rattle.report.proofs.Putting.{line-more, line-both}
use Rattle.report.proofs.refused_at_line.Goals as goal

pub returns : goal.returns
unfolding refused_at_text
returns c =
    let lined = line-both _ _ _ c.labelled-refused.ensures.answer c.with_labelled-refused.ensures.answer in
    line-more _ newline (line-both _ _ _ lined c.with_labelled-refused-2.ensures.answer) c.with_word.ensures
