-- `reasons::deciding::decide` meets its contract. Assumes nothing.
use mathlib.Core.Path.{sym, ap, ◌∙◌}
use Rattle.places.specs.Answered.{answered}
use Rattle.analysis.specs.declared.Rule.{Rule}
use Rattle.analysis.specs.ByRule.{place_refusal}
use Rattle.reasons.specs.Deciding.{decided_of}
use Rattle.reasons.proofs.deciding.decide.Goals as goal

pub returns-in-Published : goal.returns-in-Published
returns-in-Published c =
    let args = c.args in
    c.decide_longer.ensures ∙ sym (ap (λ (rule : Rule). answered (place_refusal rule args.table args.place) (decided_of rule args.table args.place)) c.in-Published.is)

pub returns-in-Assured : goal.returns-in-Assured
returns-in-Assured c =
    let args = c.args in
    c.decide_assured.ensures ∙ sym (ap (λ (rule : Rule). answered (place_refusal rule args.table args.place) (decided_of rule args.table args.place)) c.in-Assured.is)
