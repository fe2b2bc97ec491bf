-- Whether a task has an assured time within its deadline: a search up to there tells. Assumes nothing.
use Prim.Native.Nat.{ℕ, ◌≤◌}
use mathlib.Core.Path.{◌≡◌, ap, ◌∙◌}
use lib.Dec.{eqb}
use Rattle.analysis.specs.Common.Tasks.{Tasks}
use Rattle.analysis.specs.Common.Entries.{is_late}
use Rattle.analysis.specs.Assured.Equation.{assured_equation}
use Rattle.analysis.specs.Assured.Time.{assured_within, assured_time, unassured}
use Rattle.analysis.proofs.Laws.Common.Cut.{cut-late, least-cut}

pub unassured-within : (s : Tasks) (i limit : ℕ) → limit ≡ (s.at i).deadline → limit ≤ 65535 → eqb (assured_within limit s i) 0 ≡ unassured s i
unfolding assured_time assured_within
unassured-within s i limit deadline within =
    ap (λ (n : ℕ). eqb n 0) (least-cut (assured_equation s i) 1 limit 65535 within) ∙ cut-late limit (assured_within 65535 s i) ∙ ap (λ (n : ℕ). is_late n (assured_time s i)) deadline
