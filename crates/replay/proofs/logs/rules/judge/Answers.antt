-- `replay::logs::rules::judge` meets its contract. Assumes nothing.
use Rattle.std.proofs.Common.{sym, ◌∙◌}
use Rattle.replay.proofs.logs.rules.judge.Goals as goal

pub returns-then-is_strange : goal.returns-then-is_strange
returns-then-is_strange c = simp (sym c.is_strange.ensures ∙ c.if-is_strange.true)

pub returns-then-is_early : goal.returns-then-is_early
returns-then-is_early c = simp (sym c.is_strange.ensures ∙ c.if-is_strange.false, c.if-is_early.true)

pub returns-then-is_hasty : goal.returns-then-is_hasty
returns-then-is_hasty c =
    simp (sym c.is_strange.ensures ∙ c.if-is_strange.false, c.if-is_early.false, sym c.is_hasty.ensures ∙ c.if-is_hasty.true)

pub returns : goal.returns
returns c =
    simp (sym c.is_strange.ensures ∙ c.if-is_strange.false, c.if-is_early.false, sym c.is_hasty.ensures ∙ c.if-is_hasty.false)
