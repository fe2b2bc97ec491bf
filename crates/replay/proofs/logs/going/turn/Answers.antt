-- `replay::logs::going::turn` meets its contract. Assumes nothing.
use Rattle.std.proofs.Common.{sym, ap, ◌∙◌}
use Rattle.replay.specs.Ticks.Columns.{cells_shown}
use Rattle.replay.specs.Logs.Pieces.{breaking}
use Rattle.replay.specs.Logs.Held.{held_in}
use Rattle.replay.proofs.OfLogs.Stepped.{tick-broken, tick-run}
use Rattle.replay.proofs.OfLogs.Turned.{refusal-held, held-free}
use Rattle.replay.proofs.logs.going.turn.Goals as goal

pub returns-then-refusal-ne0 : goal.returns-then-refusal-ne0
unfolding held_in breaking
returns-then-refusal-ne0 c =
    let given = c.args in
    let asked = c.requires in
    let f = given.following in
    let headway = given.headway in
    let cells = cells_shown given.columns.now in
    let judged = c.judge-refusal.ensures ∙ refusal-held f.machine cells headway.gap headway.tally given.tick.releases given.tick.faults _ c.some_early-is_early.ensures in
    let held = held_in f cells headway in record {
      turn = ap (breaking held) judged ∙ sym (tick-broken held given.tick.releases given.tick.faults given.tick.ran (held-free f cells headway asked.good asked.free) (λ e. c.if-refusal-ne0.true (judged ∙ e)));
      kept = record { small = asked.kept.small; kept = asked.kept.kept };
    }

pub run-requires : goal.run-requires
run-requires c = c.requires.kept

pub returns : goal.returns
unfolding held_in
returns c =
    let given = c.args in
    let asked = c.requires in
    let f = given.following in
    let headway = given.headway in
    let cells = cells_shown given.columns.now in
    let judged = c.judge-refusal.ensures ∙ refusal-held f.machine cells headway.gap headway.tally given.tick.releases given.tick.faults _ c.some_early-is_early.ensures in
    record {
      turn = c.run.ensures.run ∙ sym (tick-run (held_in f cells headway) given.tick.releases given.tick.faults given.tick.ran (held-free f cells headway asked.good asked.free) (sym judged ∙ c.if-refusal-ne0.false));
      kept = c.run.ensures.kept;
    }
