-- Margins by computation: of the relay box of examples/relay_box.txt, and of a box whose first task has its fault priority below its priority, by both rules. Assumes nothing.
use Prim.Native.Nat.{ℕ}
use mathlib.Core.Path.{◌≡◌, refl, sym}
use mathlib.Core.Bool.{true, false}
use mathlib.Core.List.{[], ◌∷◌}
use native.Mathlib.Omega.{arith}
use Rattle.places.specs.Places.{some_below, filled_below, sum_below, most_below}
use Rattle.places.specs.Search.{first_from}
use Rattle.places.specs.Refusals.{or_else, first_below}
use Rattle.sheet.specs.declared.Record.{Record}
use Rattle.sheet.specs.declared.Table.{Table}
use Rattle.sheet.specs.Layout.{record_at, room, is_whole, edition_for}
use Rattle.sheet.specs.Rules.{outside, wrong_share, taken, refusal_of, record_refusal, records_refusal, table_refusal, shared_refusal}
use Rattle.analysis.specs.declared.Rule.{Rule}
use Rattle.analysis.specs.declared.Rule.TheVariants.{Published, Assured}
use Rattle.analysis.specs.Common.Rounding.{up}
use Rattle.analysis.specs.Common.Tasks.{fault_at, own_choice}
use Rattle.analysis.specs.Common.Backups.{others, everyone, backup_of, largest_backup, backup_elsewhere, backup_from_fault}
use Rattle.analysis.specs.Common.Supplier.{supplier_of}
use Rattle.analysis.specs.Common.Search.{least_within}
use Rattle.analysis.specs.Common.Entries.{is_late}
use Rattle.analysis.specs.Published.Equations.{asked_elsewhere, asked_itself, is_between, struck_elsewhere, struck_itself}
use Rattle.analysis.specs.Published.Response.{time_elsewhere, time_itself, response_within, response_time, passes}
use Rattle.analysis.specs.Assured.Equation.{is_over, is_ahead, backup_ahead, asked_assured, assured_equation}
use Rattle.analysis.specs.Assured.Time.{assured_within, assured_time, assured}
use Rattle.analysis.specs.ByRule.{meets, rule_refusal}
use Rattle.margins.specs.declared.Field.TheVariants.{Cost, Backup, Deadline, Period}
use Rattle.margins.specs.declared.changing.Change.{Change}
use Rattle.margins.specs.declared.changing.Change.TheVariants.{One, All}
use Rattle.margins.specs.Changes.{with_value, grown, changed_at, changed}
use Rattle.margins.specs.Margins.{holds, holds_with, least_field, asks_least, last_field, last_of, margin_of}
use Rattle.margins.specs.Fitted.{value_at}
use Rattle.margins.proofs.Stepped.{fails_at, margin-none}
use Rattle.margins.proofs.Demands.{margin-is}

-- a record of cost, backup, deadline and period, whose fault priority is its priority
abbrev task : ℕ → ℕ → ℕ → ℕ → ℕ → Record
task priority cost backup deadline period = record { cost = cost; backup = backup; deadline = deadline; period = period; priority = priority; fault_priority = priority }

-- the radio, the note store, the settlement check, the log
unfoldable pub relay : Table
relay = record { count = 4; interval = 300; round = 1; share = 1; records = task 4 5 10 50 50 ∷ task 3 15 40 150 150 ∷ task 2 35 25 95 250 ∷ task 1 50 75 310 500 ∷ [] }

-- the verdicts at each margin and past it: cost 30 and 31, backup 1, deadline 100 and 99, period 65,535, factor 933 and 934
verdicts : (rule_refusal Published relay ≡ 0)
    × (holds_with Published relay (One Cost 2) 30 ≡ true) × (holds_with Published relay (One Cost 2) 31 ≡ false) × (fails_at Published relay (One Backup 2) 1 ≡ true)
    × (holds_with Published relay (One Deadline 2) 100 ≡ true) × (holds_with Published relay (One Deadline 2) 99 ≡ false) × (fails_at Published relay (One Period 2) 1 ≡ true)
    × (holds_with Published relay All 933 ≡ true) × (holds_with Published relay All 934 ≡ false)
unfolding relay some_below filled_below sum_below most_below first_from or_else first_below record_at room is_whole edition_for outside wrong_share taken refusal_of record_refusal records_refusal table_refusal up fault_at own_choice others everyone backup_of largest_backup backup_elsewhere backup_from_fault supplier_of least_within is_late asked_elsewhere asked_itself is_between struck_elsewhere struck_itself time_elsewhere time_itself response_within response_time passes meets rule_refusal with_value grown changed_at changed holds holds_with least_field asks_least last_field last_of value_at
verdicts = (refl, refl, refl, refl, refl, refl, refl, refl, refl)

-- "margin 3 cost 30 backup none deadline 100 period none", "factor 933"
pub relay-margins : (margin_of Published relay (One Cost 2) ≡ 30) × (margin_of Published relay (One Backup 2) ≡ 0) × (margin_of Published relay (One Deadline 2) ≡ 100) × (margin_of Published relay (One Period 2) ≡ 0) × (margin_of Published relay All ≡ 933)
unfolding relay record_at rule_refusal least_field asks_least last_field last_of
relay-margins = (
  margin-is Published relay (One Cost 2) verdicts.0 30 31 (omega arith, omega arith) (omega arith, omega arith) refl verdicts.1 verdicts.2,
  sym (margin-none Published relay verdicts.0 (One Backup 2) verdicts.3),
  margin-is Published relay (One Deadline 2) verdicts.0 100 99 (omega arith, omega arith) (omega arith, omega arith) refl verdicts.4 verdicts.5,
  sym (margin-none Published relay verdicts.0 (One Period 2) verdicts.6),
  margin-is Published relay All verdicts.0 933 934 (omega arith, omega arith) (omega arith, omega arith) refl verdicts.7 verdicts.8,
)

-- three tasks, of which the first has the highest priority and the lowest fault priority: C and B, D and T, p and q differ
unfoldable pub box : Table
box =
    record {
      count = 3;
      interval = 27;
      round = 1;
      share = 1;
      records = record { cost = 9; backup = 5; deadline = 38; period = 48; priority = 3; fault_priority = 1 } ∷ task 2 9 2 34 46 ∷ task 1 8 1 43 64 ∷ [];
    }

-- a table holds with one value of what is changed, and not with another
record Turns (t : Table) (rule : Rule) (change : Change) (value next : ℕ) : Type 0 where
  at : holds_with rule t change value ≡ true
  beyond : holds_with rule t change next ≡ false

-- by the published equations the first task can have cost 10, backup 5, deadline 37 and period 38, and nothing can grow
published-turns : (rule_refusal Published box ≡ 0)
    × Turns box Published (One Cost 0) 10 11
    × Turns box Published (One Backup 0) 5 6
    × Turns box Published (One Deadline 0) 37 36
    × Turns box Published (One Period 0) 38 37
    × Turns box Published All 1000 1001
unfolding box some_below filled_below sum_below most_below first_from or_else first_below record_at room is_whole edition_for outside wrong_share taken refusal_of record_refusal records_refusal table_refusal up fault_at own_choice others everyone backup_of largest_backup backup_elsewhere backup_from_fault supplier_of least_within is_late asked_elsewhere asked_itself is_between struck_elsewhere struck_itself time_elsewhere time_itself response_within response_time passes meets rule_refusal with_value grown changed_at changed holds holds_with least_field asks_least last_field last_of
published-turns = (refl, record { at = refl; beyond = refl }, record { at = refl; beyond = refl }, record { at = refl; beyond = refl }, record { at = refl; beyond = refl }, record { at = refl; beyond = refl })

pub published-margins : (margin_of Published box (One Cost 0) ≡ 10) × (margin_of Published box (One Backup 0) ≡ 5) × (margin_of Published box (One Deadline 0) ≡ 37) × (margin_of Published box (One Period 0) ≡ 38) × (margin_of Published box All ≡ 1000)
unfolding box record_at least_field asks_least last_field last_of
published-margins = (
  margin-is Published box (One Cost 0) published-turns.0 10 11 (omega arith, omega arith) (omega arith, omega arith) refl published-turns.1.at published-turns.1.beyond,
  margin-is Published box (One Backup 0) published-turns.0 5 6 (omega arith, omega arith) (omega arith, omega arith) refl published-turns.2.at published-turns.2.beyond,
  margin-is Published box (One Deadline 0) published-turns.0 37 36 (omega arith, omega arith) (omega arith, omega arith) refl published-turns.3.at published-turns.3.beyond,
  margin-is Published box (One Period 0) published-turns.0 38 37 (omega arith, omega arith) (omega arith, omega arith) refl published-turns.4.at published-turns.4.beyond,
  margin-is Published box All published-turns.0 1000 1001 (omega arith, omega arith) (omega arith, omega arith) refl published-turns.5.at published-turns.5.beyond,
)

-- by the assured times cost 16, backup 8, deadline 23 and period 38, and all can grow by an eighth
assured-turns : (rule_refusal Assured box ≡ 0)
    × Turns box Assured (One Cost 0) 16 17
    × Turns box Assured (One Backup 0) 8 9
    × Turns box Assured (One Deadline 0) 23 22
    × Turns box Assured (One Period 0) 38 37
    × Turns box Assured All 1125 1126
unfolding box some_below filled_below sum_below most_below first_from or_else first_below record_at room is_whole edition_for outside wrong_share taken refusal_of record_refusal records_refusal table_refusal shared_refusal up fault_at own_choice others supplier_of least_within is_late is_over is_ahead backup_ahead asked_assured assured_equation assured_within assured_time assured meets rule_refusal with_value grown changed_at changed holds holds_with least_field asks_least last_field last_of
assured-turns = (refl, record { at = refl; beyond = refl }, record { at = refl; beyond = refl }, record { at = refl; beyond = refl }, record { at = refl; beyond = refl }, record { at = refl; beyond = refl })

pub assured-margins : (margin_of Assured box (One Cost 0) ≡ 16) × (margin_of Assured box (One Backup 0) ≡ 8) × (margin_of Assured box (One Deadline 0) ≡ 23) × (margin_of Assured box (One Period 0) ≡ 38) × (margin_of Assured box All ≡ 1125)
unfolding box record_at least_field asks_least last_field last_of
assured-margins = (
  margin-is Assured box (One Cost 0) assured-turns.0 16 17 (omega arith, omega arith) (omega arith, omega arith) refl assured-turns.1.at assured-turns.1.beyond,
  margin-is Assured box (One Backup 0) assured-turns.0 8 9 (omega arith, omega arith) (omega arith, omega arith) refl assured-turns.2.at assured-turns.2.beyond,
  margin-is Assured box (One Deadline 0) assured-turns.0 23 22 (omega arith, omega arith) (omega arith, omega arith) refl assured-turns.3.at assured-turns.3.beyond,
  margin-is Assured box (One Period 0) assured-turns.0 38 37 (omega arith, omega arith) (omega arith, omega arith) refl assured-turns.4.at assured-turns.4.beyond,
  margin-is Assured box All assured-turns.0 1125 1126 (omega arith, omega arith) (omega arith, omega arith) refl assured-turns.5.at assured-turns.5.beyond,
)
