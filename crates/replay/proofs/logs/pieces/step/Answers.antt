-- `replay::logs::pieces::step` meets its contract. Assumes nothing.
use Rattle.std.proofs.Common.{sym, ◌∙◌}
use Rattle.replay.specs.Logs.Pieces.{holding}
use Rattle.replay.proofs.OfLogs.Stepped.{step-releases, step-log, step-faults, step-ran}
use Rattle.replay.proofs.logs.pieces.step.Goals as goal

pub returns-then-holds-eq0 : goal.returns-then-holds-eq0
unfolding holding
returns-then-holds-eq0 c = sym (step-releases c.args.following c.args.byte c.if-holds-eq0.true)

pub returns-then-holds-eq1 : goal.returns-then-holds-eq1
unfolding holding
returns-then-holds-eq1 c =
    sym (step-faults c.args.following c.args.byte c.if-holds-eq0.false c.if-following.true c.if-holds-eq1.true)

pub tick-requires : goal.tick-requires
tick-requires c = c.requires

pub returns-then-following : goal.returns-then-following
unfolding holding
returns-then-following c =
    c.tick.ensures ∙ sym (step-ran c.args.following c.args.byte c.if-holds-eq0.false c.if-following.true c.if-holds-eq1.false)

pub tick-requires-2 : goal.tick-requires-2
tick-requires-2 c = c.requires

pub returns : goal.returns
unfolding holding
returns c =
    c.tick-2.ensures ∙ sym (step-log c.args.following c.args.byte c.if-holds-eq0.false c.if-following.false)
