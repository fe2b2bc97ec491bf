-- `fidhaqooban::fq_record` meets its contract. Assumes nothing.
use mathlib.Core.Path.{◌∙◌}
use Rattle.fidhaqooban.proofs.Minus.{handed}
use Rattle.fidhaqooban.proofs.Written.{start-room, start-is}
use Rattle.fidhaqooban.proofs.fq_record.Goals as goal

pub number-requires : goal.number-requires
number-requires c = start-room c.args.sheet.now c.args.place _ c.record_start-found.ensures

pub returns : goal.returns
returns c = handed c.number.result c.number.type_inv ∙ c.number.ensures ∙ start-is c.args.sheet.now c.args.place _ c.record_start-found.ensures
