-- `replay::check` meets its contract: a record is one piece. Assumes nothing.
use Rattle.std.proofs.Common.{ap, ◌∙◌, arith}
use Rattle.replay.specs.declared.Following.{Following}
use Rattle.replay.specs.Logs.Pieces.{taken_answer, checked_answer}
use Rattle.replay.proofs.OfLogs.Pieced.{record-whole}
use Rattle.replay.proofs.check.Goals as goal

pub returns : goal.returns
returns c =
    let given = c.args in
    c.checked.ensures ∙ ap checked_answer (c.take.ensures ∙ ap (λ (f : Following). taken_answer f given.supplied.now) c.record.ensures)
    ∙ record-whole given.sheet.now given.supplied.now (omega (arith, c.well_formed.1.0.0))
