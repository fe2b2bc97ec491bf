-- `analysis::bounding::weighed::Topped::is_below` meets its contract. Assumes nothing.
use mathlib.Core.Path.{sym, ap, ◌∙◌}
use native.Mathlib.Omega.{arith}
use borrow.Author.Tests.{lt-ltb, le-ltb}
use Prim.Native.Nat.{ℕ, ◌+◌, ◌*◌}
use lib.Dec.{ltb}
use lib.ListN.{get_or}
use Rattle.analysis.specs.declared.Rule.{Rule}
use Rattle.analysis.specs.Bounds.Within.{below, below_limits}
use Rattle.analysis.specs.Bounds.Lent.{weighed_in}
use Rattle.analysis.proofs.Laws.Bounds.Weighing.{top-past, top-under, top-enough}
use Rattle.analysis.proofs.bounding.weighed.Topped.is_below.Goals as goal

pub returns-then-under : goal.returns-then-under
unfolding below_limits
returns-then-under c =
    let self = c.args.self.now in
    let w = self.weighed in
    let topmost = c.from.ensures ∙ self.topped _ (omega (arith, c.requires.narrow)) in
    top-under w.backups.now w.priorities.now w.choice.now w.count c.args.place _ topmost _ c.if-under.true c.is_elsewhere_below.ensures
    ∙ ap (λ (rule : Rule). below_limits rule (weighed_in w) w.choice.now c.args.place) (sym c.in-Published.is)

pub returns-else-under : goal.returns-else-under
unfolding below_limits
returns-else-under c =
    let self = c.args.self.now in
    let w = self.weighed in
    let topmost = c.from.ensures ∙ self.topped _ (omega (arith, c.requires.narrow)) in
    le-ltb _ _ c.if-under.false
    ∙ top-past w.backups.now w.priorities.now w.choice.now w.count c.args.place _ topmost _ c.if-under.false
    ∙ ap (λ (rule : Rule). below_limits rule (weighed_in w) w.choice.now c.args.place) (sym c.in-Published.is)

pub returns-then-under-2 : goal.returns-then-under-2
unfolding below_limits below
returns-then-under-2 c =
    let self = c.args.self.now in
    let w = self.weighed in
    let topmost = c.from.ensures ∙ self.topped _ (omega (arith, c.requires.narrow)) in
    lt-ltb _ _ c.if-under-2.true
    ∙ top-enough w.backups.now w.priorities.now w.choice.now w.count c.args.place _ topmost c.if-under-2.true
    ∙ ap (λ (rule : Rule). below_limits rule (weighed_in w) w.choice.now c.args.place) (sym c.in-Assured.is)

pub returns-else-under-2 : goal.returns-else-under-2
unfolding below_limits below
returns-else-under-2 c =
    let self = c.args.self.now in
    let w = self.weighed in
    ap (λ (n : ℕ). ltb n (get_or w.limits.now (9 * c.args.place + get_or w.choice.now c.args.place 0) 0)) (c.from-else-under-2.ensures ∙ c.largest_ahead.ensures)
    ∙ ap (λ (rule : Rule). below_limits rule (weighed_in w) w.choice.now c.args.place) (sym c.in-Assured.is)
