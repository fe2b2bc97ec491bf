-- `report::task_line` meets its contract: a place has at most three digits. Assumes nothing.
use Prim.Native.Nat.{◌+◌}
use native.Mathlib.Omega.{arith}
use Rattle.report.specs.Words.{task_word, space, newline}
use Rattle.report.specs.Decimal.{decimal}
use Rattle.report.specs.Texts.{outcome_text, task_text}
use Rattle.report.proofs.Decimal.{length-decimal}
use Rattle.report.proofs.Putting.{line-more, len-line, len-put}
use Rattle.report.proofs.task_line.Goals as goal

pub returns : goal.returns
unfolding task_text
returns c =
    let placed = line-more task_word (decimal (c.args.place + 1)) c.begun-line.ensures c.with_number-line.ensures in
    let spaced = line-more _ space placed c.with_word-line.ensures in
    line-more _ newline (line-more _ (outcome_text c.args.entry.outcome c.args.entry.slack) spaced c.with_outcome-line.ensures.answer) c.with_word.ensures

pub with_number-line-requires : goal.with_number-line-requires
with_number-line-requires c =
    let place = c.args.place in
    omega (arith, len-line task_word c.begun-line.ensures, length-decimal 2 (place + 1) (omega arith))

pub with_word-line-requires : goal.with_word-line-requires
with_word-line-requires c =
    let place = c.args.place in
    omega (arith, len-line task_word c.begun-line.ensures, len-put _ (decimal (place + 1)) c.with_number-line.ensures, length-decimal 2 (place + 1) (omega arith))

pub with_outcome-line-requires : goal.with_outcome-line-requires
with_outcome-line-requires c =
    let place = c.args.place in
    omega (arith, len-line task_word c.begun-line.ensures, len-put _ (decimal (place + 1)) c.with_number-line.ensures, len-put _ space c.with_word-line.ensures, length-decimal 2 (place + 1) (omega arith))

pub with_word-requires : goal.with_word-requires
with_word-requires c =
    let place = c.args.place in
    omega (arith, len-line task_word c.begun-line.ensures, len-put _ (decimal (place + 1)) c.with_number-line.ensures, len-put _ space c.with_word-line.ensures, c.with_outcome-line.ensures.bounded, length-decimal 2 (place + 1) (omega arith))
