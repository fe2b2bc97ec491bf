-- `analysis::common::tasks::Bearer::raised` meets its contract. Assumes nothing.
use Prim.Native.Nat.{ℕ, ◌+◌}
use mathlib.Core.Path.{sym, ap, ◌∙◌}
use native.Mathlib.Omega.{arith}
use Rattle.analysis.proofs.Laws.Bounds.Borne.{raise-past, raise-borne, raise-missed}
use Rattle.analysis.proofs.common.tasks.Bearer.raised.Goals as goal

pub returns-then-next-limit : goal.returns-then-next-limit
returns-then-next-limit c =
    raise-past _ c.args.backup _ (omega (arith, c.half_wide-next.ensures.same, c.half_wide-next.ensures.small))

pub returns-then-bears : goal.returns-then-bears
returns-then-bears c =
    let same = c.half_wide-next.ensures.same in
    ap (λ (n : ℕ). n + 1) same ∙ raise-borne _ c.args.backup c.args.limit (omega arith) (sym c.bears.ensures ∙ c.if-bears.true)

pub returns : goal.returns
returns c =
    raise-missed _ c.args.backup _ (sym c.bears.ensures ∙ c.if-bears.false)
