-- `replay::ticks::columns::Columns::step` meets its contract: phase after phase. Assumes nothing.
use Rattle.std.proofs.Common.{Bool, not, ◌&&◌, eqb, List, ap, ◌∙◌}
use Rattle.places.specs.Places.{one_if, count_below}
use Rattle.replay.specs.declared.Cell.{Cell}
use Rattle.replay.specs.Ticks.Cells.{cell_at, eight}
use Rattle.replay.specs.Ticks.Counts.{cell_of, gains}
use Rattle.replay.specs.Ticks.Step.{is_missed, ended}
use Rattle.replay.proofs.ticks.columns.Columns.step.Goals as goal

pub returns : goal.returns
unfolding gains
returns c =
    let given = c.args in
    let was = c.is_backup-was_backup.ensures in
    let after = c.run.ensures in
    record {
      gains = (λ i. record {
        first_attempts = (c.one_if.ensures.exact ∙ ap (λ (b : Bool). one_if (not (eqb given.priority 0) && not b)) was) i;
        backups = (c.one_if-2.ensures.exact ∙ ap (λ (b : Bool). one_if (not (eqb given.priority 0) && b)) was) i;
        idle = c.one_if-3.ensures.exact i;
        released = c.released.ensures i;
        finished = (c.one_if-4.ensures.exact ∙ ap one_if c.is_done-is_out.ensures ∙ ap (λ (l : List Cell). one_if (not (eqb given.priority 0) && eqb (cell_of l given.priority).left 0)) after) i;
        missed = (c.end-missed.ensures.missed ∙ ap (λ (l : List Cell). count_below (λ slot. is_missed (cell_at l slot)) 8) after) i;
      });
      cells = c.end-missed.ensures.cells ∙ ap (λ (l : List Cell). eight (λ slot. ended (cell_at l slot))) after;
    }
