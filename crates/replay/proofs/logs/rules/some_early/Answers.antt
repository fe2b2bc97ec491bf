-- `replay::logs::rules::some_early` meets its contract: the chain looks at each slot. Assumes nothing.
use Rattle.std.proofs.Common.{rules, tests, List, refl, sym, ap, ◌∙◌}
use Rattle.std.proofs.lemmas.Iterator.{YieldsList-from_range}
use Rattle.std.proofs.lemmas.Iterator.Search.{any_from_yields_List}
use Rattle.places.proofs.Chains.{some-ranged}
use Rattle.places.proofs.Some.{some-none}
use Rattle.replay.specs.declared.Cell.{Cell}
use Rattle.replay.specs.Ticks.Cells.{cell_at}
use Rattle.replay.specs.Ticks.Columns.{cells_shown}
use Rattle.replay.specs.Logs.Rules.{is_early, some_early}
use Rattle.replay.proofs.OfTicks.Binary.{none-released}
use Rattle.replay.proofs.logs.rules.some_early.Goals as goal

pub returns-then-releases-eq0 : goal.returns-then-releases-eq0
unfolding some_early is_early
returns-then-releases-eq0 c =
    let given = c.args in
    sym (some-none (λ k. is_early given.releases k (cell_at (cells_shown given.columns.now) k)) 8 (λ k below. simp (none-released given.releases c.if-releases-eq0.true k)))

pub returns : goal.returns
unfolding cell_at some_early
returns c =
    any_from_yields_List (λ slot. is_early c.args.releases slot (cell_at c.cells-cells.result slot)) _ _ _ c.any.ensures.ran (YieldsList-from_range 0 8 8 refl refl) (λ x b q k. search (rules, tests))
    ∙ some-ranged (λ slot. is_early c.args.releases slot (cell_at c.cells-cells.result slot)) 8
    ∙ ap (λ (l : List Cell). some_early c.args.releases (cell_at l)) c.cells-cells.ensures
