-- `margins::changing::changed_at` meets its contract. Assumes nothing.
use Prim.Native.Nat.{ℕ, ◌≤◌}
use mathlib.Core.Path.{sym, ap, ap₂, ◌∙◌, subst}
use native.Mathlib.Omega.{arith}
use Rattle.margins.specs.declared.changing.Change.{Change}
use Rattle.margins.specs.Changes.{with_figures}
use Rattle.margins.specs.Fitted.{InRoom, fitted_at}
use Rattle.margins.proofs.Fitting.{fitted-there, fitted-other}
use Rattle.margins.proofs.changing.changed_at.Goals as goal

pub overflow_cast-value : goal.overflow_cast-value
overflow_cast-value c =
    let low : c.args.value ≤ 65535 = subst (λ (x : Change). InRoom x c.args.value) c.in-One.is c.requires in
    omega (arith, low)

pub returns-then-place-there : goal.returns-then-place-there
returns-then-place-there c =
    let args = c.args in
    c.with_value.ensures ∙ sym (ap (λ (x : Change). fitted_at x args.value args.place args.task) c.in-One.is ∙ fitted-there _ _ _ _ _ c.if-place-there.true)

pub returns-else-place-there : goal.returns-else-place-there
returns-else-place-there c =
    let args = c.args in
    sym (ap (λ (x : Change). fitted_at x args.value args.place args.task) c.in-One.is ∙ fitted-other _ _ _ _ _ c.if-place-there.false)

pub returns-in-All : goal.returns-in-All
unfolding fitted_at
returns-in-All c =
    let args = c.args in
    ap₂ (λ (cost backup : ℕ). with_figures cost backup args.task) c.grown.ensures c.grown-in-All.ensures
    ∙ sym (ap (λ (x : Change). fitted_at x args.value args.place args.task) c.in-All.is)
