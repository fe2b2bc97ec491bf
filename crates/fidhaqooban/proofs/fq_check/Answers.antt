-- `fidhaqooban::fq_check` meets its contract. Assumes nothing.
use mathlib.Core.Path.{sym, ap, ◌∙◌}
use Rattle.fidhaqooban.proofs.Minus.{handed}
use Rattle.fidhaqooban.proofs.Checked.{check_answered, check-is, tick-below}
use borrow.Author.Rules.{rules}
use Rattle.fidhaqooban.proofs.fq_check.Goals as goal

pub answer-requires-in-Differs : goal.answer-requires-in-Differs
answer-requires-in-Differs c =
    let below = tick-below _ _ _ c.check.ensures _ c.in-Differs.is in
    search rules

pub returns-in-Refused : goal.returns-in-Refused
unfolding check_answered
returns-in-Refused c = handed c.answer.result c.answer.type_inv ∙ c.answer.ensures ∙ ap (check_answered _) (sym c.in-Refused.is) ∙ check-is _ _ _ c.check.ensures

pub returns-in-Accepted : goal.returns-in-Accepted
unfolding check_answered
returns-in-Accepted c = handed c.answer-in-Accepted.result c.answer-in-Accepted.type_inv ∙ c.answer-in-Accepted.ensures ∙ ap (check_answered _) (sym c.in-Accepted.is) ∙ check-is _ _ _ c.check.ensures

pub returns-in-Differs : goal.returns-in-Differs
unfolding check_answered
returns-in-Differs c = handed c.answer-in-Differs.result c.answer-in-Differs.type_inv ∙ c.answer-in-Differs.ensures ∙ ap (check_answered _) (sym c.in-Differs.is) ∙ check-is _ _ _ c.check.ensures
