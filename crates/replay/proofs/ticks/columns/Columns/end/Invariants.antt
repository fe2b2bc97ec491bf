-- `replay::ticks::columns::Columns::end` meets its contract: before each turn the slots below are ended. Assumes nothing.
use Rattle.std.proofs.Common.{◌≡◌, ◌≤◌}
use Rattle.places.specs.Places.{count_below, filled_below}
use Rattle.replay.proofs.OfTicks.Columns.{left_ended, nearer, missed_in}
use Rattle.replay.proofs.ticks.columns.Columns.end.Given as goal

abbrev pub invariant-loop-slot : goal.invariant-loop-slot
invariant-loop-slot l = (l.slot ≤ 8) × (l.missed ≡ count_below (missed_in l.initial.self.left l.initial.self.rest) l.slot) × (l.self.left ≡ filled_below (left_ended l.initial.self.left l.initial.self.rest) l.slot l.initial.self.left) × (l.self.rest ≡ filled_below (nearer l.initial.self.rest) l.slot l.initial.self.rest) × (l.self.wait ≡ filled_below (nearer l.initial.self.wait) l.slot l.initial.self.wait) × (l.self.backups ≡ l.initial.self.backups)
