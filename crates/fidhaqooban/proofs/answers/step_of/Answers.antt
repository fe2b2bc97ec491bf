-- `fidhaqooban::answers::step_of` meets its contract. Assumes nothing.
use mathlib.Core.Path.{sym, ap, ◌∙◌}
use Rattle.choices.specs.declared.Arrival.{Arrival}
use Rattle.fidhaqooban.specs.Numbers.{answer_of, arrival_from}
use Rattle.fidhaqooban.proofs.Minus.{handed}
use Rattle.fidhaqooban.proofs.answers.step_of.Goals as goal

pub choice_of-requires : goal.choice_of-requires
choice_of-requires c = c.requires c.in-Found.is

pub returns-in-Refused : goal.returns-in-Refused
unfolding arrival_from
returns-in-Refused c =
    let args = c.args in
    handed c.refused.result c.refused.type_inv ∙ c.refused.ensures ∙ ap (λ (a : Arrival). arrival_from a args.stepped.walk.entries) (sym c.in-Refused.is)

pub returns-in-Found : goal.returns-in-Found
unfolding arrival_from
returns-in-Found c =
    let args = c.args in
    handed c.answer.result c.answer.type_inv ∙ c.answer.ensures ∙ ap (answer_of 0) c.choice_of.ensures ∙ ap (λ (a : Arrival). arrival_from a args.stepped.walk.entries) (sym c.in-Found.is)

pub returns-in-End : goal.returns-in-End
unfolding arrival_from
returns-in-End c =
    let args = c.args in
    handed c.answer-in-End.result c.answer-in-End.type_inv ∙ c.answer-in-End.ensures ∙ ap (λ (a : Arrival). arrival_from a args.stepped.walk.entries) (sym c.in-End.is)
