-- Request 3's log tick by tick, and as a supplier's record, by computation: "In the log all are released at 0, the fault falls in the fourth tick, the second task comes again at 7, and the first finishes at 12." Assumes nothing.
use Rattle.std.proofs.Common.{◌≡◌, ℕ, List, [], ◌∷◌, take, drop, refl}
use Rattle.places.specs.Places.{some_below, filled_below, one_if, count_below, highest_below}
use Rattle.places.specs.Refusals.{or_else, first_below}
use Rattle.replay.specs.declared.Replayed.{Replayed}
use Rattle.replay.specs.declared.Checked.{Checked}
use Rattle.replay.specs.declared.Checked.TheVariants.{Refused, Accepted, Differs}
use Rattle.sheet.specs.Packing.{regrouped}
use Rattle.sheet.specs.Layout.{header_of, count_of, edition_of, interval_of, round_of, share_of, start_of, size_of, is_whole, part_of, record_from, record_of, sheet_record, record_at, room, table_of}
use Rattle.sheet.specs.Rules.{outside, wrong_share, taken, refusal_of, record_refusal, records_refusal, header_refusal, sheet_refusal, shared_refusal, whole_sheet_refusal}
use Rattle.replay.specs.Ticks.Tick.{is_released, is_above, is_marked, has_other}
use Rattle.replay.specs.Ticks.Cells.{cell_at, eight, is_ready}
use Rattle.replay.specs.Ticks.Runner.{priority_of, is_at, top_priority, top_backup, runner}
use Rattle.replay.specs.Ticks.Ready.{bits_of, ready_priorities}
use Rattle.replay.specs.Ticks.Step.{entered, runs, ran, faulted, is_last, is_missed, ended, gap_after}
use Rattle.replay.specs.Ticks.Counts.{cell_of, gains, added, unfinished_in, counts_from}
use Rattle.replay.specs.Ticks.Machines.{with_priority, by_priority, machine_of, tied, cells_entered, runner_of, cells_ran, tick_gains, tick, counts_of}
use Rattle.replay.specs.Logs.Over.{ran_over}
use Rattle.replay.specs.Logs.Rules.{is_strange, is_early, some_early, is_hasty, tick_refusal, ticks_refusal, log_refusal}
use Rattle.replay.specs.Logs.Shown.{log_in, shown, matching, supplied_refusal}
use Rattle.replay.specs.Logs.Answers.{start_answer, replay_refusal, replay_answer, compared, check_refusal, check_answer}
use Rattle.replay.specs.Logs.Pieces.{before_bytes, before_log, before_record, holding, breaking, running, differs_with, ticked, stepped, followed, tied_in, taken_answer, refusal_at, replayed_answer, checked_answer}

-- "Tasks (C, B, D, T, p, q): 4 4 100 100 3 1; 2 1 7 7 2 2; 1 1 100 100 1 1; E = 100."
unfoldable pub sheet : List ℕ
sheet =
    0x30 ∷ 0 ∷ 100 ∷ 0 ∷ 4 ∷ 0 ∷ 4 ∷ 0 ∷ 100 ∷ 0 ∷ 100 ∷ 0x31 ∷ 0 ∷ 2 ∷ 0 ∷ 1 ∷ 0 ∷ 7 ∷ 0 ∷ 7 ∷ 0x22 ∷ 0 ∷ 1 ∷ 0 ∷ 1 ∷ 0 ∷ 100 ∷ 0 ∷ 100 ∷ 0x11 ∷ []

-- twelve ticks
unfoldable pub log : List ℕ
log =
    7 ∷ 0 ∷ 0 ∷ 0 ∷ 0 ∷ 0 ∷ 0 ∷ 128 ∷ 0 ∷ 0 ∷ 0 ∷ 0 ∷ 0 ∷ 0 ∷ 2 ∷ 0 ∷ 0 ∷ 0 ∷ 0 ∷ 0 ∷ 0 ∷ 0 ∷ 0 ∷ 0 ∷ []

-- the ticks of work that the first task, of priority 3, has left after so many bytes of the log
unfoldable pub left_after : ℕ → ℕ
left_after bytes = (cell_at (ran_over (machine_of (table_of sheet)) (take bytes log)).cells 2).left

-- and the priorities of the jobs that are ready then
unfoldable pub ready_after : ℕ → ℕ
ready_after bytes = (ran_over (machine_of (table_of sheet)) (take bytes log)).ready

-- the seven counts of the twelve ticks
pub log-counts : replay_answer sheet log ≡ record { refusal = 0; counts = record { first_attempts = 8; backups = 4; idle = 0; released = 4; finished = 3; missed = 0; unfinished = 1 } }
unfolding sheet log or_else first_below some_below filled_below regrouped header_of count_of edition_of interval_of round_of share_of start_of size_of is_whole part_of record_from record_of sheet_record record_at room table_of outside wrong_share taken refusal_of record_refusal records_refusal header_refusal sheet_refusal shared_refusal whole_sheet_refusal is_released is_above is_marked has_other cell_at eight is_ready one_if count_below highest_below priority_of is_at top_priority top_backup runner entered runs ran faulted is_last is_missed ended gap_after cell_of gains added unfinished_in counts_from with_priority by_priority machine_of cells_entered runner_of cells_ran tick_gains tick ran_over counts_of is_strange is_early some_early is_hasty tick_refusal ticks_refusal log_refusal replay_refusal replay_answer
log-counts = refl

-- "the first finishes at 12": it has one tick left after eleven, and none after twelve
pub first_done : (left_after 22 ≡ 1) × (left_after 24 ≡ 0)
unfolding left_after sheet log some_below filled_below regrouped header_of count_of edition_of interval_of start_of part_of record_from record_of sheet_record record_at room table_of is_released is_marked cell_at eight is_ready one_if count_below highest_below priority_of is_at top_priority top_backup runner entered runs ran faulted is_last is_missed ended gap_after cell_of gains added with_priority by_priority machine_of cells_entered runner_of cells_ran tick_gains tick ran_over
first_done = (refl, refl)

-- "The set of ready levels is kept as bits": none; 3, 2 and 1; the struck job at its fault priority 1 beside 2 and 1; priority 1 alone, twice; then priority 1 once
pub priorities-kept : (ready_after 0 ≡ 0) × (ready_after 2 ≡ 7) × (ready_after 8 ≡ 3) × (ready_after 12 ≡ 1) × (ready_after 24 ≡ 1)
unfolding ready_after sheet log some_below filled_below regrouped header_of count_of edition_of interval_of start_of part_of record_from record_of sheet_record record_at room table_of is_released is_marked cell_at eight is_ready one_if count_below highest_below priority_of is_at bits_of ready_priorities top_priority top_backup runner entered runs ran faulted is_last is_missed ended gap_after cell_of gains added with_priority by_priority machine_of cells_entered runner_of cells_ran tick_gains tick ran_over
priorities-kept = (refl, refl, refl, refl, refl)

-- the same ticks as a record, with what the tick at 6 shows, and what the last says is released and shows
unfoldable pub supplied : ℕ → ℕ → ℕ → List ℕ
supplied backup releases last =
    7 ∷ 0 ∷ 3 ∷ 0 ∷ 0 ∷ 3 ∷ 0 ∷ 0 ∷ 3 ∷ 0 ∷ 128 ∷ 3 ∷ 0 ∷ 0 ∷ 2 ∷ 0 ∷ 0 ∷ 2 ∷ 0 ∷ 0 ∷ backup ∷ 2 ∷ 0 ∷ 2 ∷ 0 ∷ 0 ∷ 2 ∷ 0 ∷ 0 ∷ 131 ∷ 0 ∷ 0 ∷ 131 ∷ releases ∷ 0 ∷ last ∷ []

-- accepted with the first task's backup as 128 + 3; without the top bit that tick differs, and a wrong last tick does; a release above n in the last tick is refused, though an earlier tick differs
pub record-checked : (check_answer sheet (supplied 131 0 131) ≡ Accepted) × (check_answer sheet (supplied 3 0 131) ≡ Differs 6) × (check_answer sheet (supplied 131 0 0) ≡ Differs 11) × (check_answer sheet (supplied 3 8 131) ≡ Refused 15)
unfolding sheet supplied or_else first_below some_below filled_below regrouped header_of count_of edition_of interval_of round_of share_of start_of size_of is_whole part_of record_from record_of sheet_record record_at room table_of outside wrong_share taken refusal_of record_refusal records_refusal header_refusal sheet_refusal shared_refusal whole_sheet_refusal is_released is_above is_marked has_other cell_at eight is_ready one_if count_below highest_below priority_of is_at top_priority top_backup runner entered runs ran faulted is_last is_missed ended gap_after cell_of gains added with_priority by_priority machine_of cells_entered runner_of cells_ran tick_gains tick is_strange is_early some_early is_hasty tick_refusal ticks_refusal log_refusal log_in shown matching supplied_refusal compared check_refusal check_answer
record-checked = (refl, refl, refl, refl)

-- what is answered of a log, and of a record, whose first piece has so many bytes and whose second has the rest
unfoldable pub replayed_cut : ℕ → List ℕ → Replayed
replayed_cut bytes all = replayed_answer (taken_answer (taken_answer (before_log sheet) (take bytes all)) (drop bytes all))

unfoldable pub checked_cut : ℕ → List ℕ → Checked
checked_cut bytes all = checked_answer (taken_answer (taken_answer (before_record sheet) (take bytes all)) (drop bytes all))

-- the same counts and answers with a tick cut in two; a tick that breaks 15, before one byte more, after which it is 14; a refusal after a tick that differs
pub pieces-worked : (replayed_cut 7 log ≡ replay_answer sheet log) × (checked_cut 19 (supplied 131 0 131) ≡ Accepted) × (checked_cut 20 (supplied 3 0 131) ≡ Differs 6) × ((replayed_cut 1 (8 ∷ 0 ∷ [])).refusal ≡ 15) × ((replayed_cut 1 (8 ∷ 0 ∷ 0 ∷ [])).refusal ≡ 14) × (checked_cut 20 (supplied 3 8 131) ≡ Refused 15)
unfolding replayed_cut checked_cut sheet log supplied or_else first_below some_below filled_below regrouped header_of count_of edition_of interval_of round_of share_of start_of size_of is_whole part_of record_from record_of sheet_record record_at room table_of outside wrong_share taken refusal_of record_refusal records_refusal header_refusal sheet_refusal shared_refusal whole_sheet_refusal is_released is_above is_marked has_other cell_at eight is_ready one_if count_below highest_below priority_of is_at top_priority top_backup runner entered runs ran faulted is_last is_missed ended gap_after cell_of gains added unfinished_in counts_from with_priority by_priority machine_of cells_entered runner_of cells_ran tick_gains tick ran_over counts_of is_strange is_early some_early is_hasty tick_refusal ticks_refusal log_refusal replay_refusal replay_answer shown start_answer before_bytes before_log before_record holding breaking running differs_with ticked stepped followed tied tied_in taken_answer refusal_at replayed_answer checked_answer
pieces-worked = (refl, refl, refl, refl, refl, refl)
