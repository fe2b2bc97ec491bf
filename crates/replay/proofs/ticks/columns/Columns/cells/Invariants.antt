-- `replay::ticks::columns::Columns::cells` meets its contract: before each turn the slots below are filled. Assumes nothing.
use Rattle.std.proofs.Common.{◌≡◌, ◌≤◌, replicate}
use Rattle.places.specs.Places.{filled_below}
use Rattle.replay.specs.Ticks.Cells.{no_cell}
use Rattle.replay.specs.Ticks.Columns.{cell_in}
use Rattle.replay.proofs.ticks.columns.Columns.cells.Given as goal

abbrev pub invariant-loop-slot : goal.invariant-loop-slot
invariant-loop-slot l = (l.slot ≤ 8) × (l.cells ≡ filled_below (cell_in l.self.left l.self.rest l.self.wait l.self.backups) l.slot (replicate 8 no_cell))
