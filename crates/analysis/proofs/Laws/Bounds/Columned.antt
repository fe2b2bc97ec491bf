-- A fault priority of a record's own plays no part in what it bears. Assumes nothing.
use Prim.Native.Nat.{ℕ}
use mathlib.Core.Path.{◌≡◌, refl}
use Rattle.analysis.specs.declared.Rule.{Rule}
use Rattle.analysis.specs.declared.Rule.TheVariants.{Published, Assured}
use Rattle.analysis.specs.Common.Tasks.{Tasks}
use Rattle.analysis.specs.Published.Equations.{is_between, asked_elsewhere, asked_itself}
use Rattle.analysis.specs.Assured.Equation.{is_over, asked_assured}
use Rattle.analysis.specs.Bounds.Limits.{asked_with, asked_by, bears}
use Rattle.analysis.proofs.Laws.Common.Columned.{unfaulted}

pub bears-unfaulted : (rule : Rule) (s : Tasks) (i q backup : ℕ) → bears rule (unfaulted s) i q backup ≡ bears rule s i q backup
unfolding bears asked_by asked_with asked_elsewhere asked_itself is_between asked_assured is_over
bears-unfaulted Published s i q backup = refl
bears-unfaulted Assured s i q backup = refl
