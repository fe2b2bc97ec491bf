-- `analysis::assess_by` meets its contract. Assumes nothing.
use mathlib.Core.Path.{ap, ◌∙◌}
use mathlib.Core.List.{List}
use Prim.Native.Nat.{ℕ}
use Rattle.places.specs.Answered.{answered}
use Rattle.analysis.specs.Told.{times_told}
use Rattle.analysis.specs.ByRule.{choice_assessment_by, own_assessment_by}
use Rattle.analysis.proofs.assess_by.Goals as goal

pub returns : goal.returns
unfolding own_assessment_by
returns c =
    let args = c.args in
    c.assess_choice_by.ensures
    ∙ ap (λ (choice : List ℕ). answered (choice_assessment_by args.rule args.table choice).refusal (times_told (choice_assessment_by args.rule args.table choice))) c.own_choice.ensures
