-- `report::composing::with_entry` meets its contract: a space, and at most three digits. Assumes nothing.
use native.Mathlib.Omega.{arith}
use Rattle.report.specs.Words.{space}
use Rattle.report.specs.Decimal.{decimal}
use Rattle.report.proofs.Decimal.{length-decimal}
use Rattle.report.proofs.Putting.{put-more, len-put}
use Rattle.report.proofs.composing.with_entry.Goals as goal

pub with_number-requires : goal.with_number-requires
with_number-requires c =
    omega (arith, len-put _ space c.with_word.ensures, length-decimal 2 c.args.entry (omega arith))

pub returns : goal.returns
returns c =
    let entry = c.args.entry in record {
      answer = put-more _ space (decimal entry) c.with_word.ensures c.with_number.ensures;
      bounded = omega (arith, len-put _ space c.with_word.ensures, len-put _ (decimal entry) c.with_number.ensures, length-decimal 2 entry (omega arith));
    }
