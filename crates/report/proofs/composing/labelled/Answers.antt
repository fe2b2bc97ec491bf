-- `report::composing::labelled` meets its contract: a number of 64 bits has at most twenty digits. Assumes nothing.
use native.Mathlib.Omega.{arith}
use Rattle.report.specs.Decimal.{decimal}
use Rattle.report.proofs.Decimal.{length-decimal}
use Rattle.report.proofs.Putting.{line-more, len-line, len-put}
use Rattle.report.proofs.composing.labelled.Goals as goal

pub with_number-requires : goal.with_number-requires
with_number-requires c =
    omega (arith, len-line c.args.word.now c.begun.ensures, length-decimal 19 c.args.number (omega arith))

pub returns : goal.returns
returns c =
    record {
      answer = line-more _ _ c.begun.ensures c.with_number.ensures;
      bounded = omega (arith, len-line c.args.word.now c.begun.ensures, len-put _ (decimal c.args.number) c.with_number.ensures, length-decimal 19 c.args.number (omega arith));
    }
