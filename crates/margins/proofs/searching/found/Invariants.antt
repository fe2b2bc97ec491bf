-- `margins::searching::found` meets its contract: the table holds up to one step and not at another, which stand closer after each turn. Assumes nothing.
use Prim.Native.Nat.{◌+◌, ◌-◌}
use Rattle.analysis.proofs.Laws.Published.Halving.{Between}
use Rattle.margins.specs.Margins.{last_of}
use Rattle.margins.proofs.Stepped.{fails_at}
use Rattle.margins.proofs.searching.found.Given as goal

abbrev pub invariant-loop-holds : goal.invariant-loop-holds
invariant-loop-holds l = Between (fails_at l.rule l.table l.change) (1 + last_of l.table l.change) l.holds l.fails

abbrev pub decreases-loop-holds : goal.decreases-loop-holds
decreases-loop-holds l = l.fails - l.holds
