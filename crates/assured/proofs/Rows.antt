-- Two cases by computation: request 12's, which passes and is not assured, and one of two tasks with the same fault priority. Assumes nothing.
use mathlib.Core.Path.{◌≡◌, refl}
use mathlib.Core.Bool.{true, false}
use mathlib.Core.List.{[], ◌∷◌}
use lib.ListN.{replicate}
use Rattle.places.specs.Places.{some_below, filled_below, sum_below, most_below}
use Rattle.places.specs.Search.{first_from}
use Rattle.places.specs.Refusals.{or_else, first_below}
use Rattle.sheet.specs.declared.Table.{Table}
use Rattle.sheet.specs.Packing.{regrouped}
use Rattle.sheet.specs.Layout.{header_of, count_of, edition_of, interval_of, round_of, share_of, start_of, part_of, record_from, record_of, sheet_record, record_at, room, table_of, is_whole, edition_for}
use Rattle.sheet.specs.Rules.{outside, wrong_share, taken, refusal_of, record_refusal, records_refusal, table_refusal, shared_refusal}
use Rattle.analysis.specs.declared.Outcome.TheVariants.{OnTime}
use Rattle.analysis.specs.Common.Rounding.{up}
use Rattle.analysis.specs.Common.Tasks.{fault_at, own_choice}
use Rattle.analysis.specs.Common.Backups.{others, everyone, backup_of, largest_backup, backup_elsewhere, backup_from_fault}
use Rattle.analysis.specs.Published.Equations.{asked_elsewhere, asked_itself, is_between, struck_elsewhere, struck_itself}
use Rattle.analysis.specs.Common.Supplier.{supplier_of}
use Rattle.analysis.specs.Common.Search.{least_within}
use Rattle.analysis.specs.Published.Response.{time_elsewhere, time_itself, response_within, response_time, passes}
use Rattle.analysis.specs.Common.Entries.{is_late, outcome_of, own_tasks}
use Rattle.analysis.specs.Assured.Equation.{asked_assured, is_over, is_ahead, backup_ahead, assured_equation}
use Rattle.analysis.specs.Assured.Time.{assured_within, assured_time, assured}
use Rattle.runs.proofs.Rows.{sheet}
use Rattle.assured.specs.Answers.{assured_refusal, entry_of, no_entry, times_answer}

-- "request 12's case passes"
pub case-passes : passes (own_tasks (table_of sheet)) ≡ true
unfolding sheet some_below filled_below regrouped header_of count_of edition_of interval_of round_of share_of start_of part_of record_from record_of sheet_record record_at room table_of up sum_below most_below fault_at own_choice others everyone backup_of largest_backup backup_elsewhere backup_from_fault supplier_of is_between asked_elsewhere struck_elsewhere asked_itself struck_itself first_from least_within time_elsewhere time_itself response_within response_time is_late passes
case-passes = refl

-- "and is not assured"
pub case-not-assured : assured (own_tasks (table_of sheet)) ≡ false
unfolding sheet some_below filled_below regrouped header_of count_of edition_of interval_of round_of share_of start_of part_of record_from record_of sheet_record record_at room table_of up sum_below most_below fault_at own_choice others first_from least_within is_late is_over is_ahead backup_ahead asked_assured supplier_of assured_equation assured_within assured_time assured
case-not-assured = refl

-- two tasks whose fault priorities are both 1; the backup of the lower one is the larger
unfoldable pub tied : Table
tied =
    record {
      count = 2;
      interval = 100;
      round = 1;
      share = 1;
      records =
          record { cost = 1; backup = 1; deadline = 10; period = 20; priority = 2; fault_priority = 1 }
          ∷ record { cost = 1; backup = 5; deadline = 30; period = 40; priority = 1; fault_priority = 1 }
          ∷ [];
    }

-- at one fault priority the machine runs the higher task's backup first: the higher task waits for its own only, the lower one for the larger of both
pub tied-times : times_answer tied
    ≡ record { refusal = 0; entries = record { deadline = 10; outcome = OnTime 2 } ∷ record { deadline = 30; outcome = OnTime 7 } ∷ replicate 6 no_entry; assured = true }
unfolding tied or_else first_below some_below filled_below is_whole edition_for record_at outside wrong_share taken refusal_of record_refusal records_refusal table_refusal up sum_below most_below fault_at own_choice others first_from least_within is_late is_over is_ahead backup_ahead asked_assured supplier_of assured_equation assured_within assured_time assured outcome_of shared_refusal assured_refusal entry_of times_answer
tied-times = refl
