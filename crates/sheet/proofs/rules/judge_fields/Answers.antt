-- `sheet::rules::judge_fields` meets its contract: each return is a case of the rules. Assumes nothing.
use mathlib.Core.Path.{refl, sym, ◌∙◌}
use Rattle.places.proofs.Answered.{ok_answered, err_answered}
use Rattle.sheet.proofs.Cases.{record-6, record-7, record-8, record-9, record-9-taken, record-10, record-good}
use Rattle.sheet.proofs.rules.judge_fields.Goals as goal

pub returns-then-outside : goal.returns-then-outside
returns-then-outside c =
    err_answered _ _ (record-6 _ _ _ (sym c.outside.ensures ∙ c.if-outside.true))

pub returns-then-outside-2 : goal.returns-then-outside-2
returns-then-outside-2 c =
    err_answered _ _ (record-7 _ _ _ (sym c.outside.ensures ∙ c.if-outside.false) (sym c.outside-2.ensures ∙ c.if-outside-2.true))

pub returns-then-task : goal.returns-then-task
returns-then-task c =
    err_answered _ _ (record-8 _ _ _ (sym c.outside.ensures ∙ c.if-outside.false) (sym c.outside-2.ensures ∙ c.if-outside-2.false) c.if-task.true)

pub returns-then-outside-3 : goal.returns-then-outside-3
returns-then-outside-3 c =
    err_answered _ _ (record-9 _ _ _ (sym c.outside.ensures ∙ c.if-outside.false) (sym c.outside-2.ensures ∙ c.if-outside-2.false) c.if-task.false (sym c.outside-3.ensures ∙ c.if-outside-3.true))

pub returns-then-is_taken : goal.returns-then-is_taken
returns-then-is_taken c =
    err_answered _ _ (record-9-taken _ _ _ (sym c.outside.ensures ∙ c.if-outside.false) (sym c.outside-2.ensures ∙ c.if-outside-2.false) c.if-task.false (sym c.outside-3.ensures ∙ c.if-outside-3.false) c.if-is_taken.true)

pub returns-then-outside-4 : goal.returns-then-outside-4
returns-then-outside-4 c =
    err_answered _ _ (record-10 _ _ _ (sym c.outside.ensures ∙ c.if-outside.false) (sym c.outside-2.ensures ∙ c.if-outside-2.false) c.if-task.false (sym c.outside-3.ensures ∙ c.if-outside-3.false) c.if-is_taken.false (sym c.outside-4.ensures ∙ c.if-outside-4.true))

pub returns : goal.returns
returns c =
    ok_answered _ _ (sym (record-good _ _ _ (sym c.outside.ensures ∙ c.if-outside.false) (sym c.outside-2.ensures ∙ c.if-outside-2.false) c.if-task.false (sym c.outside-3.ensures ∙ c.if-outside-3.false) c.if-is_taken.false (sym c.outside-4.ensures ∙ c.if-outside-4.false))) refl
