-- `analysis::common::search::Search::reaches` meets its contract. Assumes nothing.
use Prim.Native.Nat.{ℕ, ◌≤◌}
use mathlib.Core.Path.{sym, ap, subst, ◌∙◌}
use mathlib.Core.Bool.{not}
use native.Mathlib.Omega.{arith}
use borrow.Author.Tests.{eq-eqb, ne_eqb}
use lib.Dec.{eqb}
use Rattle.analysis.proofs.Laws.Common.Started.{start-least, start-past, limit-met}
use Rattle.analysis.proofs.common.search.Search.reaches.Goals as goal

pub returns-then-limit-start : goal.returns-then-limit-start
returns-then-limit-start c =
    let start = c.least_asked-start.ensures in
    sym (ap not (eq-eqb _ 0 (start-past _ _ c.args.limit start.same c.if-limit-start.true)))

pub returns-then-asked-limit : goal.returns-then-asked-limit
returns-then-asked-limit c =
    let asks = c.asked.ensures.same in
    let start = c.least_asked-start.ensures in
    let limit = c.args.limit in
    let some : 1 ≤ limit = omega (arith, start.some, c.if-limit-start.false) in
    sym (ap not (ne_eqb _ 0 (limit-met _ limit some (subst (λ (n : ℕ). n ≤ limit) asks c.if-asked-limit.true))))

pub returns : goal.returns
returns c =
    let start = c.least_asked-start.ensures in
    ap (λ (n : ℕ). not (eqb n 0)) (c.climb.ensures.same ∙ start-least _ _ c.args.limit start.same start.some)
