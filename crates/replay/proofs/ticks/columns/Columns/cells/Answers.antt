-- `replay::ticks::columns::Columns::cells` meets its contract: before each turn the slots below are filled. Assumes nothing.
use Rattle.std.proofs.Common.{ℕ, replicate, ap, rules}
use Rattle.places.specs.Places.{filled_below}
use Rattle.places.proofs.Turns.{fill-turn, last_turn}
use Rattle.replay.specs.Ticks.Cells.{no_cell, eight}
use Rattle.replay.specs.Ticks.Columns.{cell_in, cells_in}
use Rattle.replay.proofs.ticks.columns.Columns.cells.Goals as goal

pub loop-slot-init : goal.loop-slot-init
unfolding filled_below
loop-slot-init c = (search rules, ap (replicate 8) c.no_cell-cells.ensures)

pub loop-slot-preserved : goal.loop-slot-preserved
unfolding cell_in
loop-slot-preserved c =
    let at = c.loop-slot in
    let given = c.args in
    (search rules, fill-turn (cell_in given.self.now.left given.self.now.rest given.self.now.wait given.self.now.backups) (replicate 8 no_cell) at.invariant.1 c.cell_in.ensures)

pub returns : goal.returns
unfolding cells_in eight
returns c =
    let given = c.args in
    last_turn (λ (n : ℕ). filled_below (cell_in given.self.now.left given.self.now.rest given.self.now.wait given.self.now.backups) n (replicate 8 no_cell)) c.loop-slot.invariant.1 c.loop-slot.invariant.0 c.loop-slot-test.false
