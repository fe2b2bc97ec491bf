-- `analysis::common::tasks::Bearer::published` meets its contract. Assumes nothing.
use Prim.Native.Nat.{ℕ}
use mathlib.Core.Path.{◌≡◌, ap, ◌∙◌}
use borrow.Author.Tests.{eq-eqb, ne_eqb}
use Rattle.analysis.specs.Published.Equations.{asked_elsewhere, asked_itself}
use Rattle.analysis.specs.Common.Search.{least_within}
use Rattle.analysis.specs.Common.Tasks.{Tasks}
use Rattle.analysis.specs.Common.Lent.{tasks_in}
use Rattle.analysis.specs.Bounds.Limits.{asked_with}
use Rattle.analysis.proofs.common.tasks.Bearer.published.Goals as goal

-- a fault priority of 0 asks as struck elsewhere does, any other as struck itself
as-elsewhere : (s : Tasks) (i q backup : ℕ) → q ≡ 0 → asked_elsewhere s i backup ≡ asked_with s i q backup
unfolding asked_with
as-elsewhere s i q backup e = simp (eq-eqb q 0 e)

as-itself : (s : Tasks) (i q backup : ℕ) → (q ≡ 0 → ⊥) → asked_itself s i q backup ≡ asked_with s i q backup
unfolding asked_with
as-itself s i q backup e = simp (ne_eqb q 0 e)

pub returns-then-self-eq0 : goal.returns-then-self-eq0
returns-then-self-eq0 c =
    let self = c.args.self.now in
    λ limit. c.elsewhere.ensures.found limit ∙ ap (λ (f : ℕ → ℕ). least_within f 1 limit) (as-elsewhere (tasks_in self.tasks) self.rank self.fault c.args.backup c.if-self-eq0.true)

pub returns : goal.returns
returns c =
    let self = c.args.self.now in
    λ limit. c.itself.ensures.found limit ∙ ap (λ (f : ℕ → ℕ). least_within f 1 limit) (as-itself (tasks_in self.tasks) self.rank self.fault c.args.backup c.if-self-eq0.false)
