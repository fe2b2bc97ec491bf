-- `fidhaqooban::fq_write` meets its contract. Assumes nothing.
use mathlib.Core.Path.{◌∙◌}
use Rattle.fidhaqooban.specs.Answers.{write_number, write_left}
use Rattle.fidhaqooban.proofs.Minus.{handed}
use Rattle.fidhaqooban.proofs.fq_write.Goals as goal

pub returns : goal.returns
unfolding write_number write_left
returns c =
    let written = c.fq_write_shared in
    record {
      answer = handed written.result written.type_inv ∙ written.ensures.answer;
      left = written.ensures.left;
    }
