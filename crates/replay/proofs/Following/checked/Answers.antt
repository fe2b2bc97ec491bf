-- `replay::Following::checked` meets its contract. Assumes nothing.
use Rattle.replay.specs.Logs.Pieces.{refusal_at}
use Rattle.replay.proofs.OfLogs.Stepped.{checked_refused, checked-differs, checked-accepted}
use Rattle.replay.proofs.Following.checked.Goals as goal

pub returns-then-refusal-ne0 : goal.returns-then-refusal-ne0
unfolding refusal_at
returns-then-refusal-ne0 c = checked_refused c.args.self _ c.refusal_at-refusal.ensures c.if-refusal-ne0.true

pub returns-then-self : goal.returns-then-self
unfolding refusal_at
returns-then-self c =
    checked-differs c.args.self _ c.refusal_at-refusal.ensures c.if-refusal-ne0.false c.if-self.true

pub returns : goal.returns
unfolding refusal_at
returns c =
    checked-accepted c.args.self _ c.refusal_at-refusal.ensures c.if-refusal-ne0.false c.if-self.false
