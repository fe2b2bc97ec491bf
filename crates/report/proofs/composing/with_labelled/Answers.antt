-- `report::composing::with_labelled` meets its contract: a number of 64 bits has at most twenty digits. Assumes nothing.
use native.Mathlib.Omega.{arith}
use Rattle.report.specs.Decimal.{decimal}
use Rattle.report.proofs.Decimal.{length-decimal}
use Rattle.report.proofs.Putting.{put-more, len-put}
use Rattle.report.proofs.composing.with_labelled.Goals as goal

pub with_number-requires : goal.with_number-requires
with_number-requires c =
    omega (arith, len-put _ c.args.word.now c.with_word.ensures, length-decimal 19 c.args.number (omega arith))

pub returns : goal.returns
returns c =
    record {
      answer = put-more _ _ _ c.with_word.ensures c.with_number.ensures;
      bounded = omega (arith, len-put _ c.args.word.now c.with_word.ensures, len-put _ (decimal c.args.number) c.with_number.ensures, length-decimal 19 c.args.number (omega arith));
    }
