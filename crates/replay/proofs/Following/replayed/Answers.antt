-- `replay::Following::replayed` meets its contract. Assumes nothing.
use Rattle.std.proofs.Common.{ap, ◌∙◌}
use Rattle.replay.specs.Ticks.Machines.{counts_of}
use Rattle.replay.specs.Logs.Pieces.{refusal_at}
use Rattle.replay.proofs.OfLogs.Stepped.{replayed-refused, replayed-passed}
use Rattle.replay.proofs.Following.replayed.Goals as goal

pub returns-then-refusal-ne0 : goal.returns-then-refusal-ne0
unfolding refusal_at
returns-then-refusal-ne0 c =
    replayed-refused c.args.self _ c.refusal_at-refusal.ensures c.if-refusal-ne0.true _ (c.counts.ensures ∙ ap counts_of c.no_machine-none.ensures)

pub returns : goal.returns
unfolding refusal_at
returns c =
    replayed-passed c.args.self _ c.refusal_at-refusal.ensures c.if-refusal-ne0.false _ c.counts-2.ensures
