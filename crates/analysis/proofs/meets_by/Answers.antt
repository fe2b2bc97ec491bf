-- `analysis::meets_by` meets its contract. Assumes nothing.
use mathlib.Core.Path.{ap, ◌∙◌}
use mathlib.Core.List.{List}
use Prim.Native.Nat.{ℕ}
use Rattle.places.specs.Answered.{answered}
use Rattle.analysis.specs.ByRule.{meets_answer, own_meets}
use Rattle.analysis.proofs.meets_by.Goals as goal

pub returns : goal.returns
unfolding own_meets
returns c =
    let args = c.args in
    c.meets_choice.ensures ∙ ap (λ (choice : List ℕ). answered (meets_answer args.rule args.table choice).refusal (meets_answer args.rule args.table choice).yes) c.own_choice.ensures
