-- `analysis::assess` meets its contract. Assumes nothing.
use mathlib.Core.Path.{ap, ◌∙◌}
use Rattle.places.specs.Answered.{answered}
use Rattle.analysis.specs.Told.{Assessment, times_told}
use Rattle.analysis.specs.Published.Answers.{own_assessment}
use Rattle.analysis.specs.ByRule.{own_assessment_by}
use Rattle.analysis.proofs.Laws.ByRule.{assessed-published}
use Rattle.analysis.proofs.assess.Goals as goal

pub returns : goal.returns
unfolding own_assessment own_assessment_by
returns c = c.assess_by.ensures ∙ ap (λ (a : Assessment). answered a.refusal (times_told a)) (assessed-published _ _)
