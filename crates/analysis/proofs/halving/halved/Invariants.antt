-- `analysis::halving::halved` meets its contract: the tasks fail the rule up to one bound and meet it at the other, which stand closer after each turn. Assumes nothing.
use Prim.Native.Nat.{◌-◌, ◌≤◌}
use Rattle.analysis.proofs.Laws.Published.Halving.{Between}
use Rattle.analysis.proofs.Laws.Interval.{met_among}
use Rattle.analysis.proofs.halving.halved.Given as goal

abbrev pub invariant-loop-fails : goal.invariant-loop-fails
invariant-loop-fails l = Between (met_among l.rule l.among) 65536 l.fails l.meets × (l.meets ≤ 65535)

abbrev pub decreases-loop-fails : goal.decreases-loop-fails
decreases-loop-fails l = l.meets - l.fails
