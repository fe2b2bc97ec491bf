-- `fidhaqooban::fq_assured_response` meets its contract. Assumes nothing.
use mathlib.Core.Path.{refl, ap, ◌∙◌}
use Rattle.analysis.specs.declared.Entry.{Entry}
use Rattle.analysis.specs.declared.Rule.TheVariants.{Assured}
use Rattle.fidhaqooban.specs.Numbers.{answer_of, time_of}
use Rattle.fidhaqooban.proofs.Minus.{handed}
use Rattle.fidhaqooban.proofs.Answered.{ok-number, err-number, timed-known}
use Rattle.fidhaqooban.proofs.Chosen.{assured-is}
use Rattle.fidhaqooban.proofs.fq_assured_response.Goals as goal

pub returns-in-Ok : goal.returns-in-Ok
returns-in-Ok c =
    handed c.answer.result c.answer.type_inv ∙ c.answer.ensures ∙ ap (answer_of 0) c.time_of.ensures.answer ∙ ok-number _ _ c.in-Ok.ensures (λ (e : Entry). time_of e.outcome) ∙ assured-is _ _ _ refl

pub returns-in-Err : goal.returns-in-Err
returns-in-Err c =
    handed c.refused.result c.refused.type_inv ∙ c.refused.ensures ∙ err-number _ _ (timed-known Assured c.args.sheet.now c.args.place) c.in-Err.ensures _ ∙ assured-is _ _ _ refl
