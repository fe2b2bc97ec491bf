-- `fidhaqooban::choosing::next_by` meets its contract. Assumes nothing.
use mathlib.Core.Path.{◌∙◌}
use Rattle.fidhaqooban.proofs.Minus.{handed}
use Rattle.fidhaqooban.proofs.Chosen.{step_small, next-is, next-refused}
use Rattle.fidhaqooban.proofs.choosing.next_by.Goals as goal

pub returns-in-Err : goal.returns-in-Err
returns-in-Err c = handed c.refused.result c.refused.type_inv ∙ c.refused.ensures ∙ next-refused c.args.rule c.args.sheet.now c.in-Err.ensures c.args.after

pub step_of-requires : goal.step_of-requires
step_of-requires c = step_small c.args.rule c.args.sheet.now c.in-Ok.ensures _ _ c.step_by.ensures

pub returns : goal.returns
returns c =
    handed c.step_of.result c.step_of.type_inv ∙ c.step_of.ensures
    ∙ next-is c.args.rule c.args.sheet.now c.in-Ok.ensures _ _ _ c.entries_of-entries.ensures c.step_by.ensures
