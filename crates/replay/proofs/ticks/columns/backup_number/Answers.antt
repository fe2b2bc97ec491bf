-- `replay::ticks::columns::backup_number` meets its contract. Assumes nothing.
use Rattle.places.specs.Places.{one_if}
use Rattle.replay.proofs.ticks.columns.backup_number.Goals as goal

pub returns-then-is_backup : goal.returns-then-is_backup
unfolding one_if
returns-then-is_backup c = simp c.if-is_backup.true

pub returns-else-is_backup : goal.returns-else-is_backup
unfolding one_if
returns-else-is_backup c = simp c.if-is_backup.false
