-- `release::load` meets its contract. Assumes nothing.
use mathlib.Core.Path.{sym, subst, ◌∙◌}
use borrow.Author.Tests.{eq-eqb}
use Rattle.places.proofs.Answered.{good_of, value_of, broken_of, refusal_of, exit_err}
use Rattle.release.specs.Answers.{Loaded}
use Rattle.release.proofs.load.Goals as goal

pub returns-in_err-loads : goal.returns-in_err-loads
returns-in_err-loads c =
    let told = c.in_err-loads.ensures in
    subst (Loaded c.args.in_use c.args.candidate c.args.protected) (sym (exit_err _ c.from_residual.ensures)) (broken_of _ _ told, refusal_of _ _ told)

pub returns-then-loads : goal.returns-then-loads
returns-then-loads c =
    let good = good_of _ _ c.in_ok-loads.ensures in
    let loads = sym (value_of _ _ c.in_ok-loads.ensures) ∙ c.if-loads.true in
    (good, record { place = simp loads; content = simp (eq-eqb _ 0 good, loads) })

pub returns : goal.returns
returns c =
    let good = good_of _ _ c.in_ok-loads.ensures in
    let loads = sym (value_of _ _ c.in_ok-loads.ensures) ∙ c.if-loads.false in
    (good, record { place = simp loads; content = simp (eq-eqb _ 0 good, loads) })
