-- `margins::searching::value_at` meets its contract. Assumes nothing.
use mathlib.Core.Path.{sym, ◌∙◌}
use Rattle.margins.proofs.Stepped.{value-down, value-up}
use Rattle.margins.proofs.searching.value_at.Goals as goal

pub returns-then-asks_least-clause-same : goal.returns-then-asks_least-clause-same
returns-then-asks_least-clause-same c =
    let args = c.args in
    sym (value-down args.change args.last args.step (sym c.asks_least.ensures ∙ c.if-asks_least.true))

pub returns-clause-same : goal.returns-clause-same
returns-clause-same c =
    let args = c.args in
    sym (value-up args.change args.last args.step (sym c.asks_least.ensures ∙ c.if-asks_least.false))
