-- `replay::ticks::columns::Columns::kept_runner` meets its contract. Assumes nothing.
use Rattle.std.proofs.Common.{List, ap, ◌∙◌}
use Rattle.sheet.specs.Layout.{record_at}
use Rattle.replay.specs.declared.Cell.{Cell}
use Rattle.replay.specs.Ticks.Cells.{cell_at}
use Rattle.replay.specs.Ticks.Runner.{runner}
use Rattle.replay.proofs.ticks.columns.Columns.kept_runner.Goals as goal

pub runner-requires : goal.runner-requires
runner-requires c = c.ready_priorities.ensures

pub returns-then-has_changed : goal.returns-then-has_changed
returns-then-has_changed c =
    let tasks = c.args.tasks in
    record {
      exact = c.runner.ensures.exact ∙ ap (λ (l : List Cell). runner (record_at tasks) (cell_at l)) c.cells-cells.ensures;
      small = c.runner.ensures.small;
    }

pub returns : goal.returns
returns c = record {
  exact = c.requires.kept c.if-has_changed.false;
  small = c.requires.small;
}
