-- `fidhaqooban::fq_release` meets its contract. Assumes nothing.
use Prim.Native.Nat.{ℕ}
use mathlib.Core.Path.{sym, ap, ◌∙◌}
use mathlib.Core.Bool.{Bool, cond}
use native.Mathlib.Omega.{arith}
use Rattle.places.proofs.Answered.{good_of, value_of, broken_of, told_number}
use Rattle.release.specs.Answers.{decision}
use Rattle.release.proofs.Order.{decision-known}
use Rattle.fidhaqooban.specs.Numbers.{answer_of}
use Rattle.fidhaqooban.specs.Answers.{release_number}
use Rattle.fidhaqooban.proofs.Minus.{handed}
use Rattle.fidhaqooban.proofs.Answered.{answered, bool-number}
use Rattle.fidhaqooban.proofs.Written.{at_most}
use Rattle.fidhaqooban.proofs.fq_release.Goals as goal

pub answer-requires : goal.answer-requires
answer-requires c = omega (arith, bool-number c.in-Ok.loads, at_most c.in-Ok.loads 1)

pub returns-in-Ok : goal.returns-in-Ok
unfolding release_number
returns-in-Ok c =
    let d = decision c.args.in_use.now c.args.candidate.now c.args.protected_places in
    handed c.answer.result c.answer.type_inv ∙ c.answer.ensures ∙ ap (answer_of 0) (bool-number c.in-Ok.loads)
    ∙ ap (λ (b : Bool). answer_of 0 (cond b 1 0)) (value_of d.refusal d.loads c.in-Ok.ensures) ∙ ap (λ (r : ℕ). answer_of r (cond d.loads 1 0)) (sym (good_of d.refusal d.loads c.in-Ok.ensures))

pub returns-in-Err : goal.returns-in-Err
unfolding release_number
returns-in-Err c =
    let d = decision c.args.in_use.now c.args.candidate.now c.args.protected_places in
    handed c.refused.result c.refused.type_inv ∙ c.refused.ensures
    ∙ ap (λ (r : ℕ). answer_of r 0) (told_number d.refusal d.loads (decision-known c.args.in_use.now c.args.candidate.now c.args.protected_places) c.in-Err.ensures)
    ∙ answered d.refusal 0 (cond d.loads 1 0) (λ fine. absurd (broken_of d.refusal d.loads c.in-Err.ensures fine))
