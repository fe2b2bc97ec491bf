-- `replay::Machine::counts` meets its contract. Assumes nothing.
use Rattle.std.proofs.Common.{ap, ◌∙◌}
use Rattle.replay.specs.Ticks.Counts.{counts_from}
use Rattle.replay.specs.Ticks.Machines.{counts_of}
use Rattle.replay.proofs.Machine.counts.Goals as goal

pub returns : goal.returns
unfolding counts_of
returns c = c.counts_of.ensures ∙ ap (counts_from c.args.self.tally) c.unfinished.ensures
