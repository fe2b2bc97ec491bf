-- `fidhaqooban::answers::answer` meets its contract. Assumes nothing.
use native.Mathlib.Omega.{arith}
use borrow.Author.Tests.{ne_eqb}
use mir.Syntax.{w64}
use mir.Facts.{to_z_pos}
use Rattle.fidhaqooban.specs.Numbers.{answer_of}
use Rattle.fidhaqooban.proofs.Minus.{minus-fits, minus}
use Rattle.fidhaqooban.proofs.answers.answer.Goals as goal

pub overflow_sub-result : goal.overflow_sub-result
overflow_sub-result c = minus-fits c.args.refusal (omega arith)

pub returns-then-refusal-ne0 : goal.returns-then-refusal-ne0
unfolding answer_of
returns-then-refusal-ne0 c = rw (ne_eqb _ 0 c.if-refusal-ne0.true) (minus c.args.refusal (omega arith))

pub returns : goal.returns
unfolding answer_of
returns c = rw c.if-refusal-ne0.false (to_z_pos w64 c.requires)
