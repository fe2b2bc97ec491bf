-- `report::composing::with_late` meets its contract: late and a space are five bytes. Assumes nothing.
use Prim.Native.Nat.{◌^◌, ◌<◌}
use mathlib.Core.Path.{ap, ◌∙◌}
use mathlib.Core.List.{◌++◌}
use native.Mathlib.Omega.{arith}
use lib.IntN.{ℤ}
use lib.Signed.{mag}
use Rattle.report.specs.Words.{late_word, space}
use Rattle.report.specs.Decimal.{signed}
use Rattle.report.specs.Texts.{late_text}
use Rattle.report.specs.Putting.{put}
use Rattle.report.proofs.Putting.{put-more, len-put}
use Rattle.report.proofs.Signs.{back}
use borrow.Author.Rules.{rules}
use Rattle.report.proofs.composing.with_late.Goals as goal

pub with_signed-requires : goal.with_signed-requires
with_signed-requires c = omega (arith, len-put _ (late_word ++ space) c.with_word.ensures)

pub returns-in-Figure : goal.returns-in-Figure
unfolding late_text
returns-in-Figure c =
    let line = c.args.line in
    let told = c.in-Figure in
    let ticks = c.in-Figure.ticks in
    let fits : mag ticks < 2 ^ 31 = search rules in
    let longer = len-put _ (late_word ++ space) c.with_word.ensures in
    let text = ap (λ (z : ℤ). put line ((late_word ++ space) ++ signed z)) (back ticks fits) in
    record {
      answer = rw c.in-Figure.is (put-more line (late_word ++ space) _ c.with_word.ensures c.with_signed.ensures.answer ∙ text);
      bounded = omega (arith, c.with_signed.ensures.bounded);
    }

pub returns-in-NoFigure : goal.returns-in-NoFigure
unfolding late_text
returns-in-NoFigure c = record {
  answer = rw c.in-NoFigure.is c.with_word-in-NoFigure.ensures;
  bounded = omega (arith, len-put _ late_word c.with_word-in-NoFigure.ensures);
}
