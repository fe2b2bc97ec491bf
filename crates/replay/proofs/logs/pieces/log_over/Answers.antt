-- `replay::logs::pieces::log_over` meets its contract. Assumes nothing.
use Rattle.std.proofs.Common.{cond, sym, ap, ◌∙◌, subst}
use Rattle.replay.specs.declared.Following.{Following}
use Rattle.replay.specs.Ticks.Machines.{IsTied}
use Rattle.replay.specs.Logs.Pieces.{before_bytes}
use Rattle.replay.proofs.OfLogs.Going.{even-ticks, refused-answer, passed-answer}
use Rattle.replay.proofs.OfLogs.Turned.{log-gone}
use Rattle.replay.proofs.logs.pieces.log_over.Goals as goal

pub go_over-gone-requires : goal.go_over-gone-requires
unfolding before_bytes
go_over-gone-requires c =
    let begun = c.before_bytes-following.ensures in
    record {
      width = sym (ap (λ (f : Following). cond f.is_record 3 2) begun);
      whole = c.requires.whole;
      tied = subst (λ (f : Following). IsTied f.machine) (sym begun) c.requires.tied;
    }

pub returns-then-refusal-ne0 : goal.returns-then-refusal-ne0
returns-then-refusal-ne0 c =
    let given = c.args in
    let gone = log-gone given.machine given.log.now c.requires.whole _ _ c.before_bytes-following.ensures c.go_over-gone.ensures in
    refused-answer given.machine given.log.now _ _ c.no_machine.ensures (even-ticks given.machine given.log.now c.requires.whole ∙ sym gone.0) c.if-refusal-ne0.true

pub returns : goal.returns
returns c =
    let given = c.args in
    let gone = log-gone given.machine given.log.now c.requires.whole _ _ c.before_bytes-following.ensures c.go_over-gone.ensures in
    let passed = c.if-refusal-ne0.false in
    passed-answer given.machine given.log.now _ c.requires.tied (even-ticks given.machine given.log.now c.requires.whole ∙ sym gone.0 ∙ passed) (gone.1 passed)
