-- `replay::ticks::columns::Columns::enter` meets its contract: before each turn the releases of the slots below are in. Assumes nothing.
use Rattle.std.proofs.Common.{◌≡◌, ◌≤◌}
use Rattle.places.specs.Places.{filled_below}
use Rattle.sheet.specs.Layout.{record_at}
use Rattle.replay.proofs.OfTicks.Columns.{entered_in}
use Rattle.replay.proofs.ticks.columns.Columns.enter.Given as goal

abbrev pub invariant-loop-slot : goal.invariant-loop-slot
invariant-loop-slot l = (l.slot ≤ 8) × (l.self.left ≡ filled_below (entered_in l.releases (λ k. (record_at l.tasks k).cost) l.initial.self.left) l.slot l.initial.self.left) × (l.self.rest ≡ filled_below (entered_in l.releases (λ k. (record_at l.tasks k).deadline) l.initial.self.rest) l.slot l.initial.self.rest) × (l.self.wait ≡ filled_below (entered_in l.releases (λ k. (record_at l.tasks k).period) l.initial.self.wait) l.slot l.initial.self.wait) × (l.self.backups ≡ filled_below (entered_in l.releases (λ k. 0) l.initial.self.backups) l.slot l.initial.self.backups)
