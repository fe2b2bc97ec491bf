-- `analysis::common::tasks::Task::search` meets its contract: each equation is searched with its own largest backup. Assumes nothing.
use Prim.Native.Nat.{ℕ}
use mathlib.Core.Path.{sym, ap, ◌∙◌}
use Rattle.analysis.specs.declared.Equation.{Equation}
use Rattle.analysis.specs.Common.Search.{least_within}
use Rattle.analysis.specs.Common.Lent.{chosen_in}
use Rattle.analysis.specs.Published.Equations.{is_between, asked_elsewhere, asked_itself, struck_elsewhere, struck_itself}
use Rattle.analysis.specs.Assured.Equation.{is_over, asked_assured, assured_equation}
use Rattle.analysis.specs.ByEquation.{asked_by}
use Rattle.analysis.proofs.common.tasks.Task.search.Goals as goal

pub invariant_of-bearer : goal.invariant_of-bearer
invariant_of-bearer c =
    let self = c.args.self.now in
    record { below = self.below; fits = (self.among.chosen self.rank self.below).1 }

pub returns-in-Elsewhere : goal.returns-in-Elsewhere
unfolding asked_by struck_elsewhere asked_elsewhere
returns-in-Elsewhere c =
    let self = c.args.self.now in
    let s = chosen_in self.among in
    λ limit. c.elsewhere.ensures.found limit
    ∙ ap (λ (M : ℕ). least_within (asked_elsewhere s self.rank M) 1 limit) c.backup_elsewhere.ensures
    ∙ ap (λ (equation : Equation). least_within (asked_by equation s self.rank) 1 limit) (sym c.in-Elsewhere.is)

pub returns-in-Itself : goal.returns-in-Itself
unfolding asked_by struck_itself asked_itself is_between
returns-in-Itself c =
    let self = c.args.self.now in
    let s = chosen_in self.among in
    λ limit. c.itself.ensures.found limit
    ∙ ap (λ (N : ℕ). least_within (asked_itself s self.rank (s.fault self.rank) N) 1 limit) c.backup_from_fault.ensures
    ∙ ap (λ (equation : Equation). least_within (asked_by equation s self.rank) 1 limit) (sym c.in-Itself.is)

pub returns-in-Assurance : goal.returns-in-Assurance
unfolding asked_by assured_equation asked_assured is_over
returns-in-Assurance c =
    let self = c.args.self.now in
    let s = chosen_in self.among in
    λ limit. c.assurance.ensures.found limit
    ∙ ap (λ (N : ℕ). least_within (asked_assured s self.rank (s.fault self.rank) N) 1 limit) c.backup_ahead.ensures
    ∙ ap (λ (equation : Equation). least_within (asked_by equation s self.rank) 1 limit) (sym c.in-Assurance.is)
