-- `replay::logs::going::run` meets its contract: phase after phase, and the byte that the tick shows. Assumes nothing.
use Rattle.replay.specs.Ticks.Columns.{cells_shown}
use Rattle.replay.proofs.OfTicks.Held.{runner-entered}
use Rattle.replay.proofs.OfLogs.Turned.{run-held}
use Rattle.replay.proofs.logs.going.run.Goals as goal

pub kept_runner-runs-requires : goal.kept_runner-runs-requires
kept_runner-runs-requires c =
    let given = c.args in
    let kept = c.requires in
    record {
      small = kept.small;
      kept = runner-entered given.following.machine _ _ _ _ given.tick.releases given.headway.priority given.headway.has_changed _ c.enter.ensures kept.kept;
    }

pub is_other-requires : goal.is_other-requires
is_other-requires c = c.kept_runner-runs.ensures.small

pub step-more-requires : goal.step-more-requires
step-more-requires c = c.kept_runner-runs.ensures.small

pub returns : goal.returns
returns c =
    let given = c.args in
    let held =
    run-held given.following (cells_shown given.columns.now) given.headway given.tick.releases given.tick.faults given.tick.ran _ c.enter.ensures _ c.kept_runner-runs.ensures.small c.kept_runner-runs.ensures.exact _ c.is_marked-is_struck.ensures _ c.step-more.ensures.cells _ c.step-more.ensures.gains _ c.is_other.ensures _ _ _ _ c.one_if.ensures.exact c.wrapping_add_u64.ensures.value c.gap_after.ensures c.add.ensures in
    record { run = held.0; kept = held.1 }
