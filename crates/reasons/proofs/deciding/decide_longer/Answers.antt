-- `reasons::deciding::decide_longer` meets its contract. Assumes nothing.
use mathlib.Core.Path.{sym, ◌∙◌}
use Rattle.places.proofs.Answered.{passed_on, ok_answered, exit_err}
use Rattle.analysis.specs.ByEquation.{rule_of, solution_of}
use Rattle.reasons.proofs.Longer.{solved-good, solved-time, solved-some, decided-is, longer-decides}
use Rattle.reasons.proofs.deciding.decide_longer.Goals as goal

pub returns-in_err-elsewhere : goal.returns-in_err-elsewhere
unfolding solution_of rule_of
returns-in_err-elsewhere c = exit_err _ c.from_residual.ensures ∙ passed_on _ _ _ c.in_err-elsewhere.ensures

pub returns-in_err-itself : goal.returns-in_err-itself
unfolding solution_of rule_of
returns-in_err-itself c = exit_err _ c.from_residual-in_err-itself.ensures ∙ passed_on _ _ _ c.in_err-itself.ensures

pub is_longer-requires-clause-first : goal.is_longer-requires-clause-first
is_longer-requires-clause-first c = solved-some _ _ _ c.in_ok-elsewhere.ensures

pub is_longer-requires-clause-second : goal.is_longer-requires-clause-second
is_longer-requires-clause-second c = solved-some _ _ _ c.in_ok-itself.ensures

pub returns-then-is_longer : goal.returns-then-is_longer
unfolding rule_of
returns-then-is_longer c =
    let elsewhere = solved-time _ _ _ c.in_ok-elsewhere.ensures in
    let itself = solved-time _ _ _ c.in_ok-itself.ensures in
    let longer = longer-decides _ _ elsewhere itself (sym c.is_longer.ensures ∙ c.if-is_longer.true) in
    ok_answered _ _ (solved-good _ _ _ c.in_ok-itself.ensures) (decided-is _ _ _ _ longer itself)

pub returns : goal.returns
unfolding rule_of
returns c =
    let elsewhere = solved-time _ _ _ c.in_ok-elsewhere.ensures in
    let itself = solved-time _ _ _ c.in_ok-itself.ensures in
    let longer = longer-decides _ _ elsewhere itself (sym c.is_longer.ensures ∙ c.if-is_longer.false) in
    ok_answered _ _ (solved-good _ _ _ c.in_ok-elsewhere.ensures) (decided-is _ _ _ _ longer elsewhere)
