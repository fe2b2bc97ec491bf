-- `reasons::counting::faults_of` meets its contract. Assumes nothing.
use Prim.Native.Nat.{ℕ, ◌-◌}
use mathlib.Core.Path.{sym, ap, ◌∙◌}
use native.Mathlib.Omega.{arith}
use Rattle.analysis.specs.declared.Equation.{Equation}
use Rattle.analysis.proofs.Laws.Common.Rounding.{up-some}
use Rattle.reasons.specs.Terms.{faults_of}
use Rattle.reasons.proofs.counting.faults_of.Goals as goal

pub overflow_sub-result : goal.overflow_sub-result
overflow_sub-result c =
    omega (arith, c.begun-faults.ensures.same, up-some c.args.length c.args.interval c.requires.some c.requires.long)

pub returns-in-Elsewhere : goal.returns-in-Elsewhere
unfolding faults_of
returns-in-Elsewhere c =
    let args = c.args in
    c.begun-faults.ensures.same ∙ sym (ap (λ (e : Equation). faults_of e args.interval args.length) c.in-Elsewhere.is)

pub returns-in-Itself : goal.returns-in-Itself
unfolding faults_of
returns-in-Itself c =
    let args = c.args in
    ap (λ (n : ℕ). n - 1) c.begun-faults.ensures.same ∙ sym (ap (λ (e : Equation). faults_of e args.interval args.length) c.in-Itself.is)

pub returns-in-Assurance : goal.returns-in-Assurance
unfolding faults_of
returns-in-Assurance c =
    let args = c.args in
    c.begun-faults.ensures.same ∙ sym (ap (λ (e : Equation). faults_of e args.interval args.length) c.in-Assurance.is)
