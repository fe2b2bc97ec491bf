-- `analysis::common::tasks::Bearer::bears` meets its contract: a search up to the deadline tells. Assumes nothing.
use Prim.Native.Nat.{ℕ, ◌<◌}
use mathlib.Core.Path.{◌≡◌, sym, ap, ◌∙◌}
use mathlib.Core.Bool.{not}
use native.Mathlib.Omega.{arith}
use lib.Dec.{eqb}
use Rattle.analysis.specs.declared.Rule.{Rule}
use Rattle.analysis.specs.Common.Search.{least_within}
use Rattle.analysis.specs.Common.Tasks.{Tasks}
use Rattle.analysis.specs.Common.Entries.{is_late}
use Rattle.analysis.specs.Common.Lent.{tasks_in}
use Rattle.analysis.specs.Bounds.Limits.{asked_by, bears}
use Rattle.analysis.proofs.Laws.Common.Cut.{cut-late, least-cut}
use Rattle.analysis.proofs.common.tasks.Bearer.bears.Goals as goal

-- what a search up to the deadline finds tells whether the backup is borne
searched : (rule : Rule) (s : Tasks) (rank fault backup : ℕ) {limit : ℕ} → (limit ≡ (s.at rank).deadline) × (limit < 65536)
    → not (eqb (least_within (asked_by rule s rank fault backup) 1 limit) 0) ≡ bears rule s rank fault backup
unfolding bears
searched rule s rank fault backup {limit} deadline =
    let asked = asked_by rule s rank fault backup in
    ap (λ (n : ℕ). not (eqb n 0)) (least-cut asked 1 limit 65535 (omega arith))
    ∙ ap not (cut-late limit (least_within asked 1 65535) ∙ ap (λ (n : ℕ). is_late n (least_within asked 1 65535)) deadline.0)

pub returns-in-Published : goal.returns-in-Published
unfolding asked_by
returns-in-Published c =
    let self = c.args.self.now in
    let s = tasks_in self.tasks in
    let limit = c.wide-limit in
    c.reaches.ensures
    ∙ ap (λ (n : ℕ). not (eqb n 0)) (c.published.ensures limit.result)
    ∙ ap (λ (rule : Rule). not (eqb (least_within (asked_by rule s self.rank self.fault c.args.backup) 1 limit.result) 0)) (sym c.in-Published.is)
    ∙ searched _ s self.rank self.fault c.args.backup (limit.ensures.same, limit.ensures.small)

pub returns-in-Assured : goal.returns-in-Assured
unfolding asked_by
returns-in-Assured c =
    let self = c.args.self.now in
    let s = tasks_in self.tasks in
    let limit = c.wide-limit in
    c.reaches-in-Assured.ensures
    ∙ ap (λ (n : ℕ). not (eqb n 0)) (c.assurance.ensures.found limit.result)
    ∙ ap (λ (rule : Rule). not (eqb (least_within (asked_by rule s self.rank self.fault c.args.backup) 1 limit.result) 0)) (sym c.in-Assured.is)
    ∙ searched _ s self.rank self.fault c.args.backup (limit.ensures.same, limit.ensures.small)
