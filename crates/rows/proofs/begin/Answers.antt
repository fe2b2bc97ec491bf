-- `rows::begin` meets its contract: one search after the other. Assumes nothing.
use Rattle.std.proofs.Common.{ℕ, ap, ◌∙◌}
use Rattle.rows.specs.Lists.{after}
use Rattle.rows.proofs.begin.Goals as goal

pub returns : goal.returns
returns c = c.after-answer.ensures ∙ ap (λ (name : ℕ). after c.args.list.now name 124) c.after-name.ensures
