-- `cores::fitting::lowest` meets its contract: before each turn no core below passes. Assumes nothing.
use mathlib.Core.Path.{sym, ◌∙◌}
use native.Mathlib.Omega.{arith}
use lib.ListN.{get_or}
use Rattle.places.proofs.Search.{fails_more, first_found, first-none}
use Rattle.analysis.specs.Common.Entries.{own_tasks}
use Rattle.cores.specs.FirstFit.{still_pass, lowest_core}
use Rattle.cores.proofs.fitting.lowest.Goals as goal

pub loop-core-init : goal.loop-core-init
loop-core-init c = λ k low high. absurd (omega arith)

pub returns-then-still_pass : goal.returns-then-still_pass
unfolding lowest_core
returns-then-still_pass c =
    let at = c.loop-core in
    let given = c.args in
    record {
      none = tt;
      some = (omega arith, sym (first_found (still_pass (own_tasks given.table) (λ k. get_or given.cores k 0) given.place) given.number 1 at.core (omega arith) (omega arith) at.invariant (sym c.still_pass.ensures ∙ c.if-still_pass.true)));
    }

pub loop-core-preserved : goal.loop-core-preserved
loop-core-preserved c =
    fails_more (still_pass (own_tasks c.args.table) (λ k. get_or c.args.cores k 0) c.args.place) 1 c.loop-core.core c.loop-core.invariant (sym c.still_pass.ensures ∙ c.if-still_pass.false)

pub returns : goal.returns
unfolding lowest_core
returns c =
    let at = c.loop-core in
    let given = c.args in
    record {
      none = first-none (still_pass (own_tasks given.table) (λ k. get_or given.cores k 0) given.place) given.number 1 (λ k low high. at.invariant k low (omega arith));
      some = tt;
    }
