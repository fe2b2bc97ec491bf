-- `replay::ticks::ready::top` meets its contract. Assumes nothing.
use lib.Count.{leading_le}
use Rattle.std.proofs.Common.{arith}
use Rattle.replay.proofs.ticks.ready.top.Goals as goal

pub overflow_sub-result : goal.overflow_sub-result
overflow_sub-result c = omega (arith, leading_le 8 c.args.priorities)
