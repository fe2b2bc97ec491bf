-- `run_rows::run` is safe and ends: each row lies past the one before it. Assumes nothing.
use Rattle.std.proofs.Common.{◌-◌, length}
use Rattle.run_rows.proofs.run.Given as goal

abbrev pub invariant-loop-start : goal.invariant-loop-start
invariant-loop-start l = Unit {0}

abbrev pub decreases-loop-start : goal.decreases-loop-start
decreases-loop-start l = length l.list - l.start
