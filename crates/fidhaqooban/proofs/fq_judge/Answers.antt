-- `fidhaqooban::fq_judge` meets its contract. Assumes nothing.
use mathlib.Core.Path.{◌∙◌}
use Rattle.places.proofs.Answered.{told_answer}
use Rattle.sheet.proofs.Told.{sheet-known}
use Rattle.fidhaqooban.proofs.fq_judge.Goals as goal

pub returns : goal.returns
returns c = c.told.ensures ∙ told_answer (sheet-known c.args.sheet.now) _ c.judge.ensures
