-- `replay::logs::rules::is_early` meets its contract. Assumes nothing.
use Rattle.std.proofs.Common.{sym, ◌∙◌}
use Rattle.replay.specs.Logs.Rules.{is_early}
use Rattle.replay.proofs.logs.rules.is_early.Goals as goal

pub returns-then-is_released : goal.returns-then-is_released
unfolding is_early
returns-then-is_released c = simp (sym c.is_released.ensures ∙ c.if-is_released.true)

pub returns : goal.returns
unfolding is_early
returns c = simp (sym c.is_released.ensures ∙ c.if-is_released.false)
