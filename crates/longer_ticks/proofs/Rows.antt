-- Rows by computation of tasks in longer ticks: two sheets that scaling makes late, two whose verdicts stay. Assumes nothing.
use Prim.Native.Nat.{ℕ, zero, suc, ◌/◌, ◌≤◌, ◌<◌}
use mathlib.Core.Path.{◌≡◌, refl}
use mathlib.Core.Bool.{true, false}
use mathlib.Core.Logic.{inr}
use mathlib.Core.List.{List, [], ◌∷◌}
use native.Mathlib.Omega.{arith}
use Rattle.places.specs.Places.{some_below, sum_below, most_below}
use Rattle.places.specs.Search.{first_from}
use Rattle.sheet.specs.declared.Record.{Record}
use Rattle.sheet.specs.Layout.{record_at}
use Rattle.analysis.specs.Common.Rounding.{up}
use Rattle.analysis.specs.Common.Tasks.{Tasks}
use Rattle.analysis.specs.Common.Search.{least_within}
use Rattle.analysis.specs.Common.Supplier.{supplier_of}
use Rattle.analysis.specs.Common.Backups.{others, everyone, backup_of, largest_backup, backup_elsewhere, backup_from_fault}
use Rattle.analysis.specs.Common.Entries.{is_late}
use Rattle.longer_ticks.specs.Scaled.{scaled_part, scaled_tasks, Scalable, NoneLate}
use Rattle.analysis.specs.Published.Equations.{is_between, asked_elsewhere, struck_elsewhere, asked_itself, struck_itself}
use Rattle.analysis.specs.Published.Response.{time_elsewhere, time_itself, response_within, response_time, passes}
use Rattle.analysis.specs.Assured.Equation.{is_over, is_ahead, backup_ahead, asked_assured, assured_equation}
use Rattle.analysis.specs.Assured.Time.{assured_within, assured_time, assured}
use Rattle.longer_ticks.proofs.Demands.{scaled-passes}

-- a record, in the order of its fields
abbrev row : ℕ → ℕ → ℕ → ℕ → ℕ → ℕ → Record
row cost backup deadline period priority fault = record { cost = cost; backup = backup; deadline = deadline; period = period; priority = priority; fault_priority = fault }

-- three of them under their own fault priorities
abbrev row_tasks : ℕ → ℕ → ℕ → List Record → Tasks
row_tasks interval round share records =
    record { count = 3; at = record_at records; interval = interval; round = round; share = share; fault = λ place. (record_at records place).fault_priority }

-- a figure of each
abbrev three : (ℕ → ℕ) → List ℕ
three f = f 0 ∷ f 1 ∷ f 2 ∷ []

-- a shared processor, and a whole one
unfoldable shared_tasks : Tasks
shared_tasks = row_tasks 26 15 12 (row 1 4 20 29 3 3 ∷ row 6 4 31 38 2 1 ∷ row 6 5 43 51 1 1 ∷ [])

unfoldable whole_tasks : Tasks
whole_tasks = row_tasks 16 1 1 (row 1 5 14 23 3 2 ∷ row 4 4 24 58 2 1 ∷ row 2 3 26 36 1 1 ∷ [])

-- at K = 3 the last of three tasks takes 15 of its 14 ticks, or 9 of 8; any one of the five roundings turned the other way would let it pass
late-when-scaled : (three (response_time shared_tasks) ≡ 8 ∷ 14 ∷ 24 ∷ []) × (passes shared_tasks ≡ true) × (three (response_time (scaled_tasks 3 shared_tasks)) ≡ 4 ∷ 7 ∷ 15 ∷ []) × (passes (scaled_tasks 3 shared_tasks) ≡ false)
unfolding shared_tasks record_at scaled_part up sum_below most_below some_below others everyone backup_of largest_backup backup_elsewhere backup_from_fault supplier_of is_between asked_elsewhere struck_elsewhere asked_itself struck_itself first_from least_within time_elsewhere time_itself response_within response_time is_late passes
late-when-scaled = (refl, refl, refl, refl)

unassured-when-scaled : (three (assured_time whole_tasks) ≡ 6 ∷ 10 ∷ 12 ∷ []) × (assured whole_tasks ≡ true) × (three (assured_time (scaled_tasks 3 whole_tasks)) ≡ 3 ∷ 5 ∷ 9 ∷ []) × (assured (scaled_tasks 3 whole_tasks) ≡ false)
unfolding whole_tasks record_at scaled_part up sum_below most_below some_below others supplier_of is_over is_ahead backup_ahead asked_assured assured_equation first_from least_within assured_within assured_time is_late assured
unassured-when-scaled = (refl, refl, refl, refl)

-- in ticks a third as long, with numbers above 65,535 for the last of them
unfoldable shared_thirds : Tasks
shared_thirds = row_tasks 78 45 36 (row 3 12 60 87 3 3 ∷ row 18 12 93 114 2 1 ∷ row 18 15 150000 180000 1 1 ∷ [])

unfoldable whole_thirds : Tasks
whole_thirds = row_tasks 48 1 1 (row 3 15 42 69 3 2 ∷ row 12 12 72 174 2 1 ∷ row 6 9 150000 180000 1 1 ∷ [])

-- each time is K times the scaled one, and the verdict stays
thirds-pass : (three (response_time shared_thirds) ≡ 24 ∷ 42 ∷ 72 ∷ []) × (passes shared_thirds ≡ true) × (three (response_time (scaled_tasks 3 shared_thirds)) ≡ 8 ∷ 14 ∷ 24 ∷ []) × (passes (scaled_tasks 3 shared_thirds) ≡ true)
unfolding shared_thirds record_at scaled_part up sum_below most_below some_below others everyone backup_of largest_backup backup_elsewhere backup_from_fault supplier_of is_between asked_elsewhere struck_elsewhere asked_itself struck_itself first_from least_within time_elsewhere time_itself response_within response_time is_late passes
thirds-pass = (refl, refl, refl, refl)

thirds-assured : (three (assured_time whole_thirds) ≡ 18 ∷ 30 ∷ 36 ∷ []) × (assured whole_thirds ≡ true) × (three (assured_time (scaled_tasks 3 whole_thirds)) ≡ 6 ∷ 10 ∷ 12 ∷ []) × (assured (scaled_tasks 3 whole_thirds) ≡ true)
unfolding whole_thirds record_at scaled_part up sum_below most_below some_below others supplier_of is_over is_ahead backup_ahead asked_assured assured_equation first_from least_within assured_within assured_time is_late assured
thirds-assured = (refl, refl, refl, refl)

-- the laws speak of them: no period is shorter than K, K divides round and share, and so none of them is late within its own deadline
thirds-long : (place : ℕ) → place < 3 → 1 ≤ (shared_thirds.at place).period / 3
unfolding shared_thirds record_at
thirds-long zero below = omega arith
thirds-long (suc zero) below = omega arith
thirds-long (suc (suc zero)) below = omega arith
thirds-long (suc (suc (suc place))) below = absurd (omega arith)

thirds-scalable : Scalable 3 shared_thirds
unfolding shared_thirds
thirds-scalable = record { period = thirds-long; interval = omega arith; shared = inr (refl, refl) }

thirds-none-late : NoneLate response_within shared_thirds
thirds-none-late = scaled-passes 3 shared_thirds thirds-scalable thirds-pass.3
