-- `replay::ticks::counting::unfinished` meets its contract: the chain keeps the cells that are ready. Assumes nothing.
use Rattle.std.proofs.Common.{rules, tests, arith, List, length, filter, take_all, sym, ap, ◌∙◌}
use Rattle.std.proofs.lemmas.Iterator.{YieldsList-from_slice}
use Rattle.std.proofs.lemmas.Iterator.Consumers.{YieldsList-from_filter, YieldsList-at, count_from_yields_List}
use Rattle.places.proofs.Chains.{count-listed}
use Rattle.replay.specs.declared.Cell.{Cell}
use Rattle.replay.specs.Ticks.Cells.{no_cell, cell_at, is_ready}
use Rattle.replay.specs.Ticks.Counts.{unfinished_in}
use Rattle.replay.proofs.ticks.counting.unfinished.Goals as goal

pub returns : goal.returns
unfolding cell_at unfinished_in
returns c =
    count_from_yields_List c.filter-ready.result c.count.result c.count.ensures.ran (YieldsList-from_filter _ is_ready (YieldsList-at c.filter-ready.ensures.source (YieldsList-from_slice c.args.cells c.iter.ensures.rest)) c.filter-ready.ensures.closure (λ x r q k. search (rules, tests)))
    ∙ ap (λ (l : List Cell). length (filter is_ready l)) (sym (take_all 8 c.args.cells (omega arith)))
    ∙ count-listed no_cell is_ready c.args.cells 8 (omega arith)
