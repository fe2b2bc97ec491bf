-- `fidhaqooban::fq_rewrite` meets its contract. Assumes nothing.
use mathlib.Core.Path.{◌∙◌}
use Rattle.fidhaqooban.specs.Answers.{rewrite_left}
use Rattle.fidhaqooban.proofs.Minus.{handed}
use Rattle.fidhaqooban.proofs.Written.{rewrite-room, rewrite-is}
use Rattle.fidhaqooban.proofs.fq_rewrite.Goals as goal

pub number-requires : goal.number-requires
number-requires c = rewrite-room _ _ _ c.rewrite-rewriting.ensures.answer

pub returns : goal.returns
unfolding rewrite_left
returns c =
    record {
      answer = handed c.number.result c.number.type_inv ∙ c.number.ensures ∙ rewrite-is _ _ _ c.rewrite-rewriting.ensures.answer;
      left = c.rewrite-rewriting.ensures.leaves;
    }
