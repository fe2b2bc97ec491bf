-- `run_rows::run` is safe and ends: each row lies past the one before it. Assumes nothing.
use Rattle.std.proofs.Common.{arith}
use Rattle.run_rows.proofs.run.Goals as goal

pub loop-start-smaller : goal.loop-start-smaller
loop-start-smaller c = omega (arith, c.next-start.ensures.past c.loop-start-test.true)
