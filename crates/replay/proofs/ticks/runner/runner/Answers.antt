-- `replay::ticks::runner::runner` meets its contract: the highest priority by leading zeros, then the highest backup of that priority. Assumes nothing.
use Rattle.std.proofs.Common.{◌≡◌, ℕ, ◌-◌, sym, ap, ◌∙◌, arith}
use lib.Count.{count_leading_zeros}
use Rattle.sheet.specs.Layout.{record_at}
use Rattle.replay.specs.Ticks.Cells.{cell_at}
use Rattle.replay.specs.Ticks.Runner.{top_priority, top_backup}
use Rattle.replay.proofs.OfTicks.Ready.{highest-priority}
use Rattle.replay.proofs.OfTicks.Chosen.{runner-first, runner-backup, priority-at-most, backup-at-most}
use Rattle.replay.proofs.ticks.runner.runner.Goals as goal

pub returns-then-backup-eq0 : goal.returns-then-backup-eq0
returns-then-backup-eq0 c =
    let priority : c.top-priority.result ≡ top_priority (record_at c.args.tasks) (cell_at c.args.cells) = c.top-priority.ensures ∙ ap (λ (bits : ℕ). 8 - count_leading_zeros 8 bits) c.requires ∙ highest-priority _ _ in
    let backup : c.top_backup-backup.result ≡ top_backup (record_at c.args.tasks) (cell_at c.args.cells) (top_priority (record_at c.args.tasks) (cell_at c.args.cells)) = c.top_backup-backup.ensures ∙ ap (top_backup (record_at c.args.tasks) (cell_at c.args.cells)) priority in
    let tasks = record_at c.args.tasks in
    let cells = cell_at c.args.cells in
    record {
      exact = priority ∙ sym (runner-first tasks cells (sym backup ∙ c.if-backup-eq0.true));
      small = omega (arith, priority, priority-at-most tasks cells);
    }

pub returns : goal.returns
returns c =
    let priority : c.top-priority.result ≡ top_priority (record_at c.args.tasks) (cell_at c.args.cells) = c.top-priority.ensures ∙ ap (λ (bits : ℕ). 8 - count_leading_zeros 8 bits) c.requires ∙ highest-priority _ _ in
    let backup : c.top_backup-backup.result ≡ top_backup (record_at c.args.tasks) (cell_at c.args.cells) (top_priority (record_at c.args.tasks) (cell_at c.args.cells)) = c.top_backup-backup.ensures ∙ ap (top_backup (record_at c.args.tasks) (cell_at c.args.cells)) priority in
    let tasks = record_at c.args.tasks in
    let cells = cell_at c.args.cells in
    record {
      exact = backup ∙ sym (runner-backup tasks cells (λ e. c.if-backup-eq0.false (backup ∙ e)));
      small = omega (arith, backup, backup-at-most tasks cells (top_priority tasks cells));
    }
