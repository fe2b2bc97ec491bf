-- Request 3's log beside its figures, by computation: after as many ticks as document 01's two stages gave the first task, it still has work left; after as many as the one equation gives it, none. Assumes nothing.
use Prim.Native.Nat.{◌*◌}
use mathlib.Core.Path.{◌≡◌, refl}
use Rattle.places.specs.Places.{some_below, filled_below, sum_below, most_below}
use Rattle.places.specs.Search.{first_from}
use Rattle.sheet.specs.Packing.{regrouped}
use Rattle.sheet.specs.Layout.{header_of, count_of, edition_of, interval_of, round_of, share_of, start_of, part_of, record_from, record_of, sheet_record, record_at, room, table_of}
use Rattle.analysis.specs.Common.Rounding.{up}
use Rattle.analysis.specs.Common.Tasks.{fault_at, own_choice}
use Rattle.analysis.specs.Common.Backups.{others, everyone, backup_of, largest_backup, backup_elsewhere, backup_from_fault}
use Rattle.analysis.specs.Published.Equations.{asked_elsewhere, asked_itself, is_between, struck_elsewhere, struck_itself}
use Rattle.analysis.specs.Common.Supplier.{supplier_of}
use Rattle.analysis.specs.Common.Search.{least_within}
use Rattle.analysis.specs.Published.Response.{time_elsewhere, time_itself, response_within, response_time}
use Rattle.analysis.specs.Common.Entries.{own_tasks}
use Rattle.analysis.proofs.Laws.Published.Stages.{backup_after, stage_one, stage_two, length_one, former_itself, former_response}
use Rattle.replay.proofs.Rows.{sheet, left_after, first_done}

-- "By 01 the first task takes 10."
pub former-figure : former_response 65535 (own_tasks (table_of sheet)) 0 ≡ 10
unfolding sheet header_of count_of edition_of interval_of round_of share_of start_of part_of record_from record_of sheet_record record_at room table_of regrouped filled_below some_below
    up sum_below most_below fault_at own_choice others everyone backup_of largest_backup backup_elsewhere backup_from_fault backup_after
    stage_one stage_two length_one former_itself former_response supplier_of asked_elsewhere struck_elsewhere first_from least_within time_elsewhere
former-figure = refl

-- "The task above now gets 14."
pub figure : response_time (own_tasks (table_of sheet)) 0 ≡ 14
unfolding sheet header_of count_of edition_of interval_of round_of share_of start_of part_of record_from record_of sheet_record record_at room table_of regrouped filled_below some_below
    up sum_below most_below fault_at own_choice others everyone backup_of largest_backup backup_elsewhere backup_from_fault
    is_between supplier_of asked_elsewhere struck_elsewhere asked_itself struck_itself first_from least_within time_elsewhere time_itself response_within response_time
figure = refl

-- "the first finishes at 12": so the former figure was too small. Two bytes of the log are a tick
pub former-too-small : (former_response 65535 (own_tasks (table_of sheet)) 0 ≡ 10) × (left_after (2 * 11) ≡ 1)
former-too-small = (former-figure, first_done.0)

-- and that of today is enough
pub figure-enough : (response_time (own_tasks (table_of sheet)) 0 ≡ 14) × (left_after (2 * 12) ≡ 0)
figure-enough = (figure, first_done.1)
