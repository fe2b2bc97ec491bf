-- `fidhaqooban::fq_verdict` meets its contract. Assumes nothing.
use mathlib.Core.Bool.{cond}
use mathlib.Core.Path.{refl, ap, ◌∙◌}
use native.Mathlib.Omega.{arith}
use Rattle.analysis.specs.declared.Assessment.{Assessment}
use Rattle.analysis.specs.declared.Rule.TheVariants.{Published}
use Rattle.fidhaqooban.specs.Numbers.{answer_of}
use Rattle.fidhaqooban.proofs.Minus.{handed}
use Rattle.fidhaqooban.proofs.Answered.{ok-number, err-number, assessed-known, bool-number, verdict-is}
use Rattle.fidhaqooban.proofs.Written.{at_most}
use Rattle.fidhaqooban.proofs.fq_verdict.Goals as goal

pub answer-requires : goal.answer-requires
answer-requires c =
    let passes = c.in-Ok.assessment.passes in
    omega (arith, bool-number passes, at_most passes 1)

pub returns-in-Ok : goal.returns-in-Ok
returns-in-Ok c =
    handed c.answer.result c.answer.type_inv ∙ c.answer.ensures ∙ ap (answer_of 0) (bool-number c.in-Ok.assessment.passes)
    ∙ ok-number _ _ c.in-Ok.ensures (λ (a : Assessment). cond a.passes 1 0) ∙ verdict-is _ _ refl

pub returns-in-Err : goal.returns-in-Err
returns-in-Err c =
    handed c.refused.result c.refused.type_inv ∙ c.refused.ensures ∙ err-number _ _ (assessed-known Published c.args.sheet.now) c.in-Err.ensures _ ∙ verdict-is _ _ refl
