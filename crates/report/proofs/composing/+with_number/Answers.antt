-- `report::composing::with_number`, which calls itself, meets its contract: the digits before the last one are put, and then that.
-- Assumes nothing.
use Prim.Native.Nat.{◌/◌}
use mathlib.Core.Path.{sym, ap, ◌∙◌}
use native.Mathlib.Omega.{arith}
use lib.ListN.{length}
use Rattle.report.specs.Decimal.{decimal}
use Rattle.report.specs.Putting.{put}
use Rattle.report.proofs.Decimal.{shorter, decimal-one, decimal-more, length_more}
use Rattle.report.proofs.Putting.{put-more, len-put}
use Rattle.report.proofs.composing.+with_number.Goals as goal

pub with_digit-requires-clause-room : goal.with_digit-requires-clause-room
with_digit-requires-clause-room t c = omega (arith, ap length (decimal-one c.if-number-lt10.true))

pub returns-then-number-lt10 : goal.returns-then-number-lt10
returns-then-number-lt10 t c = c.with_digit.ensures ∙ ap (put c.args.line) (sym (decimal-one c.if-number-lt10.true))

pub with_number-requires : goal.with_number-requires
with_number-requires t c = (omega (arith, shorter c.if-number-lt10.false), omega (arith, length_more c.if-number-lt10.false))

pub with_digit-requires-2-clause-room : goal.with_digit-requires-2-clause-room
with_digit-requires-2-clause-room t c = omega (arith, len-put _ (decimal (c.args.number / 10)) c.with_number.ensures, length_more c.if-number-lt10.false)

pub returns : goal.returns
returns t c = put-more _ _ _ c.with_number.ensures c.with_digit-2.ensures ∙ ap (put c.args.line) (sym (decimal-more c.if-number-lt10.false))
