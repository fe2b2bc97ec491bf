-- `replay::ticks::columns::Columns::is_done` meets its contract. Assumes nothing.
use Rattle.std.proofs.Common.{◌-◌, ◌<◌, Bool, not, ◌&&◌, eqb, sym, ◌∙◌, ap₂, arith, eq-eqb, ne_eqb}
use Rattle.replay.specs.declared.Cell.{Cell}
use Rattle.replay.specs.Ticks.Columns.{cell_in, cells_shown}
use Rattle.replay.proofs.OfTicks.Columns.{cell-at, cell-of-some}
use Rattle.replay.proofs.ticks.columns.Columns.is_done.Goals as goal

pub returns-then-priority-eq0 : goal.returns-then-priority-eq0
returns-then-priority-eq0 c = simp (eq-eqb c.args.priority 0 c.if-priority-eq0.true)

pub returns : goal.returns
unfolding cell_in
returns c =
    let given = c.args in
    let low : given.priority - 1 < 8 = omega (arith, c.requires, c.if-priority-eq0.false) in
    sym (ap₂ (λ (b : Bool) (cell : Cell). not b && eqb cell.left 0) (ne_eqb given.priority 0 c.if-priority-eq0.false) (cell-of-some (cells_shown c.args.self.now) given.priority c.if-priority-eq0.false ∙ cell-at given.self.now.left given.self.now.rest given.self.now.wait given.self.now.backups (given.priority - 1) low))
