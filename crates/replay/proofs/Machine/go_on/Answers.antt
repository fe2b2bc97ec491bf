-- `replay::Machine::go_on` meets its contract. Assumes nothing.
use Rattle.std.proofs.Common.{sym, ap, ◌∙◌, subst, arith}
use Rattle.replay.specs.declared.Machine.{Machine}
use Rattle.replay.specs.Ticks.Machines.{IsTied}
use Rattle.replay.specs.Logs.Answers.{go_on_answer}
use Rattle.replay.proofs.OfTicks.Ready.{tied-tied}
use Rattle.replay.proofs.OfLogs.Going.{odd_refused, refused-answer, go-on-any}
use Rattle.replay.proofs.Machine.go_on.Goals as goal

pub returns-then-part-ne0 : goal.returns-then-part-ne0
returns-then-part-ne0 c =
    let given = c.args in
    refused-answer given.self given.part.now 14 _ c.no_machine.ensures (odd_refused given.self given.part.now c.if-part-ne0.true) (λ e. omega arith)

pub log_over-requires : goal.log_over-requires
log_over-requires c = record {
  whole = c.if-part-ne0.false;
  tied = subst IsTied (sym c.tied.ensures) (tied-tied _);
}

pub returns : goal.returns
returns c = c.log_over.ensures ∙ ap (λ (m : Machine). go_on_answer m c.args.part.now) c.tied.ensures ∙ go-on-any _ _
