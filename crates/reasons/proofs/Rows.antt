-- Reasons by computation: the relay box of examples/relay_box.txt, Sheet A of docs/EQUATIONS.md, and boxes in which C and B, D and T, p and q differ, shared and whole, by both rules. Assumes nothing.
use Prim.Native.Nat.{ℕ}
use mathlib.Core.Path.{◌≡◌, refl, ap, ap₂, ◌∙◌}
use mathlib.Core.Bool.{true, false}
use mathlib.Core.List.{[], ◌∷◌}
use native.Mathlib.Omega.{arith}
use lib.ListN.{replicate}
use Rattle.places.specs.Places.{some_below, filled_below, sum_below, most_below}
use Rattle.places.specs.Search.{first_from}
use Rattle.places.specs.Refusals.{or_else, first_below}
use Rattle.sheet.specs.declared.Record.{Record}
use Rattle.sheet.specs.declared.Table.{Table}
use Rattle.sheet.specs.Layout.{record_at, is_whole, edition_for}
use Rattle.sheet.specs.Rules.{outside, wrong_share, taken, refusal_of, record_refusal, records_refusal, table_refusal, shared_refusal}
use Rattle.analysis.specs.declared.Rule.TheVariants.{Published, Assured}
use Rattle.analysis.specs.declared.Equation.{Equation}
use Rattle.analysis.specs.declared.Equation.TheVariants.{Elsewhere, Itself, Assurance}
use Rattle.analysis.specs.Common.Rounding.{up}
use Rattle.analysis.specs.Common.Tasks.{fault_at, own_choice}
use Rattle.analysis.specs.Common.Backups.{others, everyone, backup_of, largest_backup, backup_elsewhere, backup_from_fault}
use Rattle.analysis.specs.Common.Supplier.{supplier_of}
use Rattle.analysis.specs.Common.Search.{least_within}
use Rattle.analysis.specs.Common.Entries.{own_tasks, is_late}
use Rattle.analysis.specs.Published.Equations.{asked_elsewhere, asked_itself, is_between, struck_elsewhere, struck_itself}
use Rattle.analysis.specs.Published.Response.{time_elsewhere, time_itself}
use Rattle.analysis.specs.Assured.Equation.{is_over, is_ahead, backup_ahead, asked_assured, assured_equation}
use Rattle.analysis.specs.Assured.Time.{assured_within, assured_time}
use Rattle.analysis.specs.ByRule.{rule_refusal, place_refusal}
use Rattle.analysis.specs.ByEquation.{asked_by, time_of}
use Rattle.analysis.proofs.Demands.{solution-none}
use Rattle.analysis.proofs.Laws.Published.EachTick.{itself-never}
use Rattle.reasons.specs.Told.{Reason}
use Rattle.reasons.specs.declared.Term.{Term}
use Rattle.reasons.specs.declared.Tip.TheVariants.{Nothing, Task, Faults, Supplier}
use Rattle.reasons.specs.Told.Whose.{At}
use Rattle.reasons.specs.Deciding.{is_longer, decides, length_of}
use Rattle.reasons.specs.Terms.{own_backup, times_of, task_terms, no_term, is_meant, meant_backup, owner_below, largest_of, whose_of, faults_of, supplier_term}
use Rattle.reasons.specs.Adding.{amount, added, own_added, tasks_added, total_of}
use Rattle.reasons.specs.Answers.{explained, no_reason, reason_of}
use Rattle.reasons.proofs.Demands.{reason-given}

-- a record of priority, fault priority, cost, backup, deadline and period
abbrev task : ℕ → ℕ → ℕ → ℕ → ℕ → ℕ → Record
task priority fault cost backup deadline period = record { cost = cost; backup = backup; deadline = deadline; period = period; priority = priority; fault_priority = fault }

-- so many times so many ticks
abbrev of : ℕ → ℕ → Term
of times ticks = record { times = times; ticks = ticks }

-- the radio, the note store, the settlement check, the log
unfoldable pub relay : Table
relay = record { count = 4; interval = 300; round = 1; share = 1; records = task 4 4 5 10 50 50 ∷ task 3 3 15 40 150 150 ∷ task 2 2 35 25 95 250 ∷ task 1 1 50 75 310 500 ∷ [] }

-- Sheet A at E = 9, with its own fault priorities and with 1 2 1
unfoldable pub sheet_a : Table
sheet_a = record { count = 3; interval = 9; round = 1; share = 1; records = task 3 3 4 4 12 12 ∷ task 2 2 3 3 20 20 ∷ task 1 1 1 1 35 35 ∷ [] }

unfoldable pub lowered : Table
lowered = record { count = 3; interval = 9; round = 1; share = 1; records = task 3 1 4 4 12 12 ∷ task 2 2 3 3 20 20 ∷ task 1 1 1 1 35 35 ∷ [] }

-- four tasks of which the first has one above it, one between its fault priority and its priority, and one below: on a processor of which we have 8 ticks of 10, and on a whole one
unfoldable pub shared : Table
shared = record { count = 4; interval = 13; round = 10; share = 8; records = task 3 1 4 3 30 50 ∷ task 4 2 2 1 15 16 ∷ task 2 2 3 5 40 45 ∷ task 1 1 1 2 60 70 ∷ [] }

unfoldable pub whole : ℕ → Table
whole interval = record { count = 4; interval = interval; round = 1; share = 1; records = task 3 1 4 3 30 50 ∷ task 4 2 2 1 15 16 ∷ task 2 1 3 5 40 45 ∷ task 1 1 1 2 60 70 ∷ [] }

-- what is told of each
abbrev relay_reason : Reason
relay_reason =
    record {
      refusal = 0;
      equation = Elsewhere;
      length = 100;
      deadline = 95;
      cost = 35;
      backup = 0;
      tasks = of 2 5 ∷ of 1 15 ∷ of 0 35 ∷ of 0 50 ∷ replicate 4 no_term;
      faults = of 1 40;
      whose = At 1;
      supplier = of 100 0;
      sum = 100;
      late = true;
      tip = Faults;
    }

abbrev second_reason : Reason
second_reason =
    record {
      refusal = 0;
      equation = Elsewhere;
      length = 23;
      deadline = 20;
      cost = 3;
      backup = 0;
      tasks = of 2 4 ∷ of 0 3 ∷ of 0 1 ∷ replicate 5 no_term;
      faults = of 3 4;
      whose = At 0;
      supplier = of 23 0;
      sum = 23;
      late = true;
      tip = Faults;
    }

abbrev lowered_reason : Reason
lowered_reason =
    record {
      refusal = 0;
      equation = Itself;
      length = 18;
      deadline = 12;
      cost = 4;
      backup = 4;
      tasks = of 0 4 ∷ of 2 3 ∷ of 0 1 ∷ replicate 5 no_term;
      faults = of 1 4;
      whose = At 0;
      supplier = of 18 0;
      sum = 18;
      late = true;
      tip = Task 1;
    }

abbrev shared_reason : Reason
shared_reason =
    record {
      refusal = 0;
      equation = Itself;
      length = 37;
      deadline = 30;
      cost = 4;
      backup = 3;
      tasks = of 0 4 ∷ of 3 2 ∷ of 2 3 ∷ of 0 1 ∷ replicate 4 no_term;
      faults = of 2 5;
      whose = At 2;
      supplier = of 4 2;
      sum = 37;
      late = true;
      tip = Supplier;
    }

abbrev whole_reason : Reason
whole_reason =
    record {
      refusal = 0;
      equation = Itself;
      length = 27;
      deadline = 30;
      cost = 4;
      backup = 3;
      tasks = of 0 4 ∷ of 2 2 ∷ of 2 3 ∷ of 0 1 ∷ replicate 4 no_term;
      faults = of 2 5;
      whose = At 2;
      supplier = of 27 0;
      sum = 27;
      late = false;
      tip = Nothing;
    }

abbrev assured_reason : Reason
assured_reason =
    record {
      refusal = 0;
      equation = Assurance;
      length = 15;
      deadline = 30;
      cost = 4;
      backup = 0;
      tasks = of 0 4 ∷ of 1 2 ∷ of 1 3 ∷ of 0 1 ∷ replicate 4 no_term;
      faults = of 2 3;
      whose = At 0;
      supplier = of 15 0;
      sum = 15;
      late = false;
      tip = Nothing;
    }

abbrev timeless_reason : Reason
timeless_reason =
    record {
      refusal = 0;
      equation = Itself;
      length = 31;
      deadline = 30;
      cost = 4;
      backup = 3;
      tasks = of 0 4 ∷ of 2 2 ∷ of 2 3 ∷ of 0 1 ∷ replicate 4 no_term;
      faults = of 30 5;
      whose = At 2;
      supplier = of 31 0;
      sum = 167;
      late = true;
      tip = Faults;
    }

-- relay box: 35, the radio 2 times 5, the note store once 15, and one fault with the note store's backup of 40 make 100, past the deadline of 95 with the fault
-- Sheet A: the second task takes 23 and is late by its third fault; with 1 2 1 the first is struck itself, and the second task, twice before its backup, makes it late
-- the four tasks: late by the supplier on the shared processor; on the whole one at E = 9 struck itself with the third task's backup, by the assured rule with its own
pub reasons : (reason_of Published relay 2 ≡ relay_reason) × (reason_of Published sheet_a 1 ≡ second_reason) × (reason_of Published lowered 0 ≡ lowered_reason) × (reason_of Published shared 0 ≡ shared_reason)
    × (reason_of Published (whole 9) 0 ≡ whole_reason) × (reason_of Assured (whole 9) 0 ≡ assured_reason)
unfolding relay sheet_a lowered shared whole some_below filled_below sum_below most_below first_from or_else first_below record_at is_whole edition_for outside wrong_share taken refusal_of record_refusal records_refusal table_refusal shared_refusal up fault_at own_choice others everyone backup_of largest_backup backup_elsewhere backup_from_fault supplier_of least_within is_late asked_elsewhere asked_itself is_between struck_elsewhere struck_itself time_elsewhere time_itself is_over is_ahead backup_ahead asked_assured assured_equation assured_within assured_time rule_refusal place_refusal time_of is_longer decides length_of own_backup times_of task_terms is_meant meant_backup owner_below largest_of whose_of faults_of supplier_term amount added own_added tasks_added total_of explained reason_of
reasons = (refl, refl, refl, refl, refl, refl)

-- at E = 1, where a fault comes each tick, the first of the four has no time struck itself, and is told at the first length past its deadline
timeless-given : (place_refusal Published (whole 1) 0 ≡ 0) × (time_of Elsewhere (own_tasks (whole 1)) 0 ≡ 6) × (explained Itself 0 (whole 1) 0 ≡ timeless_reason)
unfolding relay sheet_a lowered shared whole some_below filled_below sum_below most_below first_from or_else first_below record_at is_whole edition_for outside wrong_share taken refusal_of record_refusal records_refusal table_refusal shared_refusal up fault_at own_choice others everyone backup_of largest_backup backup_elsewhere backup_from_fault supplier_of least_within is_late asked_elsewhere asked_itself is_between struck_elsewhere struck_itself time_elsewhere time_itself is_over is_ahead backup_ahead asked_assured assured_equation assured_within assured_time rule_refusal place_refusal time_of is_longer decides length_of own_backup times_of task_terms is_meant meant_backup owner_below largest_of whose_of faults_of supplier_term amount added own_added tasks_added total_of explained reason_of
timeless-given = (refl, refl, refl)

pub timeless : reason_of Published (whole 1) 0 ≡ timeless_reason
unfolding whole asked_by decides is_longer record_at
timeless =
    let s = own_tasks (whole 1) in
    let none = (solution-none Itself s 0).1 (λ L low high. itself-never s refl 0 (omega arith) (omega arith) (omega arith) L) in
    let itself : decides Published s 0 ≡ Itself = simp (timeless-given.1, none) in
    reason-given Published (whole 1) 0 timeless-given.0
    ∙ ap₂ (λ (e : Equation) (n : ℕ). explained e n (whole 1) 0) itself (ap (λ (e : Equation). time_of e s 0) itself ∙ none)
    ∙ timeless-given.2

-- a place past the last is refused with 12, a shared processor by the assured rule with 19, both beside zeros
pub refusals : (reason_of Published relay 4 ≡ no_reason 12) × (reason_of Assured shared 0 ≡ no_reason 19)
unfolding relay sheet_a lowered shared whole some_below filled_below sum_below most_below first_from or_else first_below record_at is_whole edition_for outside wrong_share taken refusal_of record_refusal records_refusal table_refusal shared_refusal up fault_at own_choice others everyone backup_of largest_backup backup_elsewhere backup_from_fault supplier_of least_within is_late asked_elsewhere asked_itself is_between struck_elsewhere struck_itself time_elsewhere time_itself is_over is_ahead backup_ahead asked_assured assured_equation assured_within assured_time rule_refusal place_refusal time_of is_longer decides length_of own_backup times_of task_terms is_meant meant_backup owner_below largest_of whose_of faults_of supplier_term amount added own_added tasks_added total_of explained reason_of
refusals = (refl, refl)
