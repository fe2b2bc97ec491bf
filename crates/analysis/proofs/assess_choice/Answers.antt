-- `analysis::assess_choice` meets its contract. Assumes nothing.
use mathlib.Core.Path.{ap, ◌∙◌}
use Rattle.places.specs.Answered.{answered}
use Rattle.analysis.specs.Told.{Assessment, times_told}
use Rattle.analysis.proofs.Laws.ByRule.{assessed-published}
use Rattle.analysis.proofs.assess_choice.Goals as goal

pub returns : goal.returns
returns c = c.assess_choice_by.ensures ∙ ap (λ (a : Assessment). answered a.refusal (times_told a)) (assessed-published _ _)
