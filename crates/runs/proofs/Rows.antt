-- What is not claimed, by computation: under lowered fault priorities a sheet can pass and a job still miss. Assumes nothing.
use Prim.Native.Nat.{ℕ}
use mathlib.Core.Path.{◌≡◌, refl}
use mathlib.Core.Bool.{true}
use mathlib.Core.List.{List, [], ◌∷◌}
use Rattle.places.specs.Places.{some_below, filled_below, sum_below, most_below, one_if, count_below, highest_below}
use Rattle.places.specs.Search.{first_from}
use Rattle.places.specs.Refusals.{or_else, first_below}
use Rattle.sheet.specs.Packing.{regrouped}
use Rattle.sheet.specs.Layout.{header_of, count_of, edition_of, interval_of, round_of, share_of, start_of, size_of, is_whole, edition_for, part_of, record_from, record_of, sheet_record, record_at, room, table_of}
use Rattle.sheet.specs.Rules.{outside, wrong_share, taken, refusal_of, record_refusal, records_refusal, header_refusal, sheet_refusal, table_refusal, shared_refusal, whole_sheet_refusal}
use Rattle.analysis.specs.Common.Rounding.{up}
use Rattle.analysis.specs.Common.Tasks.{fault_at, own_choice}
use Rattle.analysis.specs.Common.Backups.{others, everyone, backup_of, largest_backup, backup_elsewhere, backup_from_fault}
use Rattle.analysis.specs.Published.Equations.{asked_elsewhere, asked_itself, is_between, struck_elsewhere, struck_itself}
use Rattle.analysis.specs.Common.Supplier.{supplier_of}
use Rattle.analysis.specs.Common.Search.{least_within}
use Rattle.analysis.specs.Published.Response.{time_elsewhere, time_itself, response_within, response_time, passes}
use Rattle.analysis.specs.Common.Entries.{is_late, own_tasks, assessed}
use Rattle.analysis.specs.Common.Columns.{priorities_of}
use Rattle.analysis.specs.Common.Allowed.{is_allowed, all_allowed}
use Rattle.analysis.specs.Published.Answers.{choice_refusal, choice_assessment, own_assessment}
use Rattle.analysis.specs.Assured.Equation.{asked_assured, is_over, is_ahead, backup_ahead, assured_equation}
use Rattle.analysis.specs.Assured.Time.{assured_within}
use Rattle.replay.specs.Ticks.Tick.{is_released, is_above, is_marked, has_other}
use Rattle.replay.specs.Ticks.Cells.{cell_at, eight, is_ready}
use Rattle.replay.specs.Ticks.Runner.{priority_of, is_at, top_priority, top_backup, runner}
use Rattle.replay.specs.Ticks.Step.{entered, runs, ran, faulted, is_last, is_missed, ended, gap_after}
use Rattle.replay.specs.Ticks.Counts.{cell_of, gains, added, unfinished_in, counts_from}
use Rattle.replay.specs.Ticks.Machines.{with_priority, by_priority, machine_of, cells_entered, runner_of, cells_ran, tick_gains, tick, counts_of}
use Rattle.replay.specs.Logs.Over.{ran_over}
use Rattle.replay.specs.Logs.Rules.{is_strange, is_early, some_early, is_hasty, tick_refusal, ticks_refusal, log_refusal}
use Rattle.replay.specs.Logs.Positions.{releases_at, faults_at}
use Rattle.replay.specs.Logs.Totals.{machine_at}
use Rattle.replay.specs.Logs.Answers.{replay_refusal, replay_answer}
use Rattle.runs.specs.Ticks.{cell_in, misses_at}

-- Tasks (C, B, D, T, p, q): 1 4 50 50 3 1; 3 1 5 25 2 1; 1 1 25 25 1 1; E = 5.
unfoldable pub sheet : List ℕ
sheet =
    0x30 ∷ 0 ∷ 5 ∷ 0 ∷ 1 ∷ 0 ∷ 4 ∷ 0 ∷ 50 ∷ 0 ∷ 50 ∷ 0x31 ∷ 0 ∷ 3 ∷ 0 ∷ 1 ∷ 0 ∷ 5 ∷ 0 ∷ 25 ∷ 0x21 ∷ 0 ∷ 1 ∷ 0 ∷ 1 ∷ 0 ∷ 25 ∷ 0 ∷ 25 ∷ 0x11 ∷ []

-- the first task is released and struck; its backup, of the lowest priority, has two of its four ticks behind it when the second task is released; that one runs its three ticks and is struck in the last; its backup waits for the first task's, and its deadline passes
unfoldable pub log : List ℕ
log = 4 ∷ 128 ∷ 0 ∷ 0 ∷ 0 ∷ 0 ∷ 2 ∷ 0 ∷ 0 ∷ 0 ∷ 0 ∷ 128 ∷ 0 ∷ 0 ∷ 0 ∷ 0 ∷ []

-- the verdict is yes
pub lowered-passes : (own_assessment (table_of sheet)).passes ≡ true
unfolding sheet or_else first_below some_below filled_below regrouped header_of count_of edition_of interval_of round_of share_of start_of is_whole edition_for part_of record_from record_of sheet_record record_at room table_of outside wrong_share taken refusal_of record_refusal records_refusal table_refusal up sum_below most_below fault_at own_choice others everyone backup_of largest_backup backup_elsewhere backup_from_fault supplier_of is_between asked_elsewhere struck_elsewhere asked_itself struck_itself first_from least_within time_elsewhere time_itself response_within response_time is_late passes priorities_of is_allowed all_allowed choice_refusal assessed choice_assessment own_assessment
lowered-passes = refl

-- the log is accepted, and one job is missed
pub lowered-misses : replay_answer sheet log ≡ record { refusal = 0; counts = record { first_attempts = 4; backups = 4; idle = 0; released = 2; finished = 1; missed = 1; unfinished = 0 } }
unfolding sheet log or_else first_below some_below filled_below regrouped header_of count_of edition_of interval_of round_of share_of start_of size_of is_whole part_of record_from record_of sheet_record record_at room table_of outside wrong_share taken refusal_of record_refusal records_refusal header_refusal sheet_refusal shared_refusal whole_sheet_refusal is_released is_above is_marked has_other cell_at eight is_ready one_if count_below highest_below priority_of is_at top_priority top_backup runner entered runs ran faulted is_last is_missed ended gap_after cell_of gains added unfinished_in counts_from with_priority by_priority machine_of cells_entered runner_of cells_ran tick_gains tick ran_over counts_of is_strange is_early some_early is_hasty tick_refusal ticks_refusal log_refusal replay_refusal replay_answer
lowered-misses = refl

-- by the second task, in the last tick
pub second-misses : misses_at (machine_of (table_of sheet)) log 1 7 ≡ true
unfolding sheet log some_below filled_below regrouped header_of count_of edition_of interval_of round_of share_of start_of part_of record_from record_of sheet_record record_at room table_of is_released is_marked cell_at eight is_ready one_if count_below highest_below priority_of is_at top_priority top_backup runner entered runs ran faulted is_last is_missed ended gap_after cell_of gains added with_priority by_priority machine_of cells_entered runner_of cells_ran tick_gains tick releases_at faults_at machine_at cell_in misses_at
second-misses = refl

-- whose assured equation has no value within its deadline
pub second-not-assured : assured_within 5 (own_tasks (table_of sheet)) 1 ≡ 0
unfolding sheet some_below filled_below regrouped header_of count_of edition_of interval_of round_of share_of start_of part_of record_from record_of sheet_record record_at room table_of up sum_below most_below fault_at own_choice others first_from least_within is_over is_ahead backup_ahead asked_assured supplier_of assured_equation assured_within
second-not-assured = refl
