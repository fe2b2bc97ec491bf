-- `replay::ticks::columns::Columns::is_backup` meets its contract. Assumes nothing.
use Rattle.std.proofs.Common.{◌-◌, ◌<◌, sym, ap, ◌∙◌, arith}
use Rattle.replay.specs.declared.Cell.{Cell}
use Rattle.replay.specs.Ticks.Columns.{cell_in, cells_shown}
use Rattle.replay.proofs.OfTicks.Columns.{cell-at, cell-of-none, cell-of-some}
use Rattle.replay.proofs.ticks.columns.Columns.is_backup.Goals as goal

pub returns-then-priority-eq0 : goal.returns-then-priority-eq0
returns-then-priority-eq0 c = sym (ap (λ (cell : Cell). cell.is_backup) (cell-of-none (cells_shown c.args.self.now) c.args.priority c.if-priority-eq0.true))

pub returns : goal.returns
unfolding cell_in
returns c =
    let given = c.args in
    let low : given.priority - 1 < 8 = omega (arith, c.requires, c.if-priority-eq0.false) in
    sym (ap (λ (cell : Cell). cell.is_backup) (cell-of-some (cells_shown c.args.self.now) given.priority c.if-priority-eq0.false ∙ cell-at given.self.now.left given.self.now.rest given.self.now.wait given.self.now.backups (given.priority - 1) low))
