-- `replay::ticks::columns::Columns::of` meets its contract: before each turn the slots below are put. Assumes nothing.
use Rattle.std.proofs.Common.{◌≡◌, ◌≤◌, replicate}
use Rattle.places.specs.Places.{one_if, filled_below}
use Rattle.replay.proofs.OfTicks.Columns.{column}
use Rattle.replay.proofs.ticks.columns.Columns.of.Given as goal

abbrev pub invariant-loop-slot : goal.invariant-loop-slot
invariant-loop-slot l = (l.slot ≤ 8) × (l.columns.left ≡ filled_below (column (λ c. c.left) l.cells) l.slot (replicate 8 0)) × (l.columns.rest ≡ filled_below (column (λ c. c.rest) l.cells) l.slot (replicate 8 0)) × (l.columns.wait ≡ filled_below (column (λ c. c.wait) l.cells) l.slot (replicate 8 0)) × (l.columns.backups ≡ filled_below (column (λ c. one_if c.is_backup) l.cells) l.slot (replicate 8 0))
