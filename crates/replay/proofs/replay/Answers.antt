-- `replay::replay` meets its contract: a log is one piece. Assumes nothing.
use Rattle.std.proofs.Common.{ap, ◌∙◌}
use Rattle.replay.specs.declared.Following.{Following}
use Rattle.replay.specs.Logs.Pieces.{taken_answer, replayed_answer}
use Rattle.replay.proofs.OfLogs.Pieced.{log-whole}
use Rattle.replay.proofs.replay.Goals as goal

pub returns : goal.returns
returns c =
    let given = c.args in
    c.replayed.ensures ∙ ap replayed_answer (c.take.ensures ∙ ap (λ (f : Following). taken_answer f given.log.now) c.log.ensures) ∙ log-whole given.sheet.now given.log.now
