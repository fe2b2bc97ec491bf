-- `analysis::response_time` meets its contract. Assumes nothing.
use mathlib.Core.Path.{ap, ◌∙◌}
use Rattle.places.specs.Answered.{answered}
use Rattle.analysis.specs.Told.{Timed}
use Rattle.analysis.proofs.Laws.ByRule.{timed-published}
use Rattle.analysis.proofs.response_time.Goals as goal

pub returns : goal.returns
returns c = c.time_by.ensures ∙ ap (λ (t : Timed). answered t.refusal t.entry) (timed-published _ _)
