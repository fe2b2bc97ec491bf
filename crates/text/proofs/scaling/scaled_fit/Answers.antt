-- `text::scaling::scaled_fit` meets its contract. Assumes nothing.
use Rattle.text.specs.Scaling.{scaled_fit, divides}
use Rattle.text.proofs.scaling.scaled_fit.Goals as goal

pub returns-then-figures-shared : goal.returns-then-figures-shared
unfolding scaled_fit divides
returns-then-figures-shared c = simp (← c.share_scale-shared.ensures.value, c.if-figures-shared.true, ← c.scaled_table.ensures) c.judged.ensures

pub returns : goal.returns
unfolding scaled_fit divides
returns c = simp (← c.share_scale-shared.ensures.value, c.if-figures-shared.false) c.not_scaled.ensures
