-- The same tasks in another order bear the same backups. Assumes nothing.
use Prim.Native.Nat.{ℕ, ◌<◌}
use mathlib.Core.Path.{◌≡◌, sym, ap, ap₂, fun_ext}
use mathlib.Core.Bool.{Bool, true, false, cond, not}
use lib.Dec.{eqb}
use Rattle.sheet.specs.declared.Record.{Record}
use Rattle.analysis.specs.declared.Rule.{Rule}
use Rattle.analysis.specs.declared.Rule.TheVariants.{Published, Assured}
use Rattle.analysis.specs.Common.Tasks.{Tasks}
use Rattle.analysis.specs.Published.Equations.{asked_elsewhere, asked_itself}
use Rattle.analysis.specs.Common.Search.{least_within}
use Rattle.analysis.specs.Common.Entries.{is_late}
use Rattle.analysis.specs.Bounds.Limits.{asked_with, asked_by, bears}
use Rattle.analysis.proofs.Laws.Common.Reordered.{SameTasks}
use Rattle.analysis.proofs.Laws.Assured.Reordered.{asked-assured-held}
use Rattle.analysis.proofs.Laws.Published.Reordered.{asked-elsewhere-held, asked-itself-held}

module _ (s held : Tasks) (rank : ℕ → ℕ) (same : SameTasks s held rank) where
  module _ (i : ℕ) (low : i < s.count) where
    asked-held : (rule : Rule) (q backup L : ℕ) → asked_by rule s i q backup L ≡ asked_by rule held (rank i) q backup L
    unfolding asked_by asked_with
    asked-held Published q backup L = asked (eqb q 0)
      where
        asked : (is : Bool) → cond is (asked_elsewhere s i backup) (asked_itself s i q backup) L ≡ cond is (asked_elsewhere held (rank i) backup) (asked_itself held (rank i) q backup) L
        asked true = asked-elsewhere-held s held rank same i low backup L
        asked false = asked-itself-held s held rank same i low q backup L
    asked-held Assured q backup L = asked-assured-held s held rank same i low q backup L

    -- whether it bears a backup, under either rule
    pub bears-held : (rule : Rule) (q backup : ℕ) → bears rule held (rank i) q backup ≡ bears rule s i q backup
    unfolding bears
    bears-held rule q backup = ap₂ (λ (D : ℕ) (f : ℕ → ℕ). not (is_late D (least_within f 1 65535))) (ap (λ (r : Record). r.deadline) (same.task i low)) (sym (fun_ext (asked-held rule q backup)))
