-- `fidhaqooban::choosing::list_by` meets its contract. Refused, the output is as it was. Assumes nothing.
use mathlib.Core.Path.{◌∙◌}
use native.Mathlib.Omega.{arith}
use Rattle.fidhaqooban.proofs.Minus.{handed}
use Rattle.fidhaqooban.proofs.Chosen.{list-room, list-is, list-leaves, list-refused}
use Rattle.fidhaqooban.proofs.choosing.list_by.Goals as goal

pub returns-in-Err : goal.returns-in-Err
returns-in-Err c =
    let told = list-refused c.args.rule c.args.sheet.now c.in-Err.ensures c.args.out.now in
    record { answer = handed c.refused.result c.refused.type_inv ∙ c.refused.ensures ∙ told.0; left = told.1 }

pub number-requires : goal.number-requires
number-requires c = list-room c.args.rule c.args.sheet.now c.in-Ok.ensures c.args.out.now c.list_by.ensures.answer (omega arith)

pub returns : goal.returns
returns c =
    record {
      answer = handed c.number.result c.number.type_inv ∙ c.number.ensures ∙ list-is c.args.rule c.args.sheet.now c.in-Ok.ensures c.args.out.now c.list_by.ensures.answer;
      left = c.list_by.ensures.left ∙ list-leaves c.args.rule c.args.sheet.now c.in-Ok.ensures c.args.out.now;
    }
