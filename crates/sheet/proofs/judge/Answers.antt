-- `sheet::judge` meets its contract. Assumes nothing.
use mathlib.Core.Path.{refl, ◌∙◌}
use Rattle.places.proofs.Answered.{good_of, passed_on, ok_answered, exit_err}
use Rattle.sheet.proofs.judge.Goals as goal

pub returns-in_err-good_count : goal.returns-in_err-good_count
returns-in_err-good_count c = exit_err _ c.from_residual.ensures ∙ passed_on _ _ _ c.in_err-good_count.ensures

pub returns : goal.returns
returns c = ok_answered _ _ (good_of _ _ c.in_ok-good_count.ensures) refl
