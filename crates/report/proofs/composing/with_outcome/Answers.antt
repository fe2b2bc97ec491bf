-- `report::composing::with_outcome` meets its contract: a time has at most five digits. Assumes nothing.
use native.Mathlib.Omega.{arith}
use Rattle.report.specs.Decimal.{decimal}
use Rattle.report.specs.Texts.{outcome_text}
use Rattle.report.proofs.Decimal.{length-decimal}
use Rattle.report.proofs.Putting.{len-put}
use Rattle.report.proofs.composing.with_outcome.Goals as goal

pub with_number-requires : goal.with_number-requires
with_number-requires c = omega (arith, length-decimal 4 c.in-OnTime.time (omega arith))

pub returns-in-OnTime : goal.returns-in-OnTime
unfolding outcome_text
returns-in-OnTime c =
    let time = c.in-OnTime.time in
    record {
      answer = rw c.in-OnTime.is c.with_number.ensures;
      bounded = omega (arith, len-put _ (decimal time) c.with_number.ensures, length-decimal 4 time (omega arith));
    }

pub returns-in-Late : goal.returns-in-Late
unfolding outcome_text
returns-in-Late c = record {
  answer = rw c.in-Late.is c.with_late.ensures.answer;
  bounded = c.with_late.ensures.bounded;
}
