-- The demands said of the answer itself: the cores that `place` reports are those of first fit, each of them passes, one core takes all records exactly if the sheet passes, and no job misses. Assumes nothing.
use Prim.Native.Nat.{ℕ, ◌≤◌, ◌<◌}
use mathlib.Core.Path.{◌≡◌, ap, ◌∙◌}
use mathlib.Core.Bool.{Bool, true}
use mathlib.Core.List.{List}
use mathlib.Core.Logic.{◌↔◌}
use native.Mathlib.Omega.{arith}
use borrow.Author.Tests.{eq-eqb}
use lib.Dec.{eqb}
use lib.ListN.{get_or, replicate}
use Rattle.places.proofs.Filled.{filled_at}
use Rattle.places.proofs.Refusals.{none_of}
use Rattle.sheet.specs.Layout.{table_of}
use Rattle.sheet.specs.Rules.{sheet_refusal, table_refusal, whole_sheet_refusal}
use Rattle.sheet.proofs.Cases.{good-table}
use Rattle.sheet.proofs.Demands.{table-good}
use Rattle.analysis.specs.Common.Tasks.{Tasks}
use Rattle.analysis.specs.Published.Response.{passes}
use Rattle.analysis.specs.Common.Entries.{own_tasks}
use Rattle.replay.specs.Logs.Answers.{replay_refusal, replay_answer}
use Rattle.cores.specs.Told.Fit.{Everyone}
use Rattle.cores.specs.Renumbered.{core_tasks}
use Rattle.cores.specs.FirstFit.{core_of, fits_none}
use Rattle.cores.specs.Tried.{Holds}
use Rattle.cores.specs.Answers.{box_refusal, cores_of, placing_of, placing_answer}
use Rattle.cores.proofs.Renumbering.{tasks-agree}
use Rattle.cores.proofs.Refused.{everyone-told}
use Rattle.cores.proofs.Demands.{core-passes}
use Rattle.cores.proofs.OneCore.{raised_tasks, one-core}
use Rattle.cores.proofs.NoneMissed.{core-misses-none}

-- a sheet and a number of cores that are not refused
box-good : (sheet : List ℕ) (number : ℕ) → box_refusal sheet number ≡ 0 → table_refusal (table_of sheet) ≡ 0
unfolding box_refusal whole_sheet_refusal
box-good sheet number fine = table-good sheet (none_of (sheet_refusal sheet) _ (none_of (whole_sheet_refusal sheet) _ fine).0).0

module _ (sheet : List ℕ) (number : ℕ) (told : (placing_answer sheet number).fit ≡ Everyone) where
  abbrev s : Tasks
  s = own_tasks (table_of sheet)

  -- whether a record is on the core by the answer
  abbrev pub is_reported : ℕ → ℕ → Bool
  is_reported core k = eqb (get_or (placing_answer sheet number).cores k 0) core

  known : (box_refusal sheet number ≡ 0) × (fits_none s number ≡ 0) × ((placing_answer sheet number).cores ≡ cores_of s number)
  unfolding placing_answer
  known = everyone-told (box_refusal sheet number) s number told

  good : table_refusal (table_of sheet) ≡ 0
  good = box-good sheet number known.0

  -- "The answer gives each record's core"
  pub reported : (k : ℕ) → k < (table_of sheet).count → get_or (placing_answer sheet number).cores k 0 ≡ core_of s number k
  unfolding cores_of
  reported k low = ap (λ (l : List ℕ). get_or l k 0) known.2 ∙ filled_at (core_of s number) (table_of sheet).count (replicate 8 0) 0 (good-table (table_of sheet) good).count.1 k low

  -- "Every core reported passes demand 2's equations"
  pub reported-passes : (core : ℕ) → 1 ≤ core → passes (core_tasks s (is_reported core) (table_of sheet).count) ≡ true
  reported-passes core some =
      ap passes (tasks-agree s _ _ (table_of sheet).count (λ k low. ap (λ (c : ℕ). eqb c core) (reported k low))) ∙ core-passes s number core some

  -- and on no core reported does a job miss, in any log of the core's own
  pub reported-misses-none : (core : ℕ) → 1 ≤ core → (own log : List ℕ) → Holds (core_tasks s (is_reported core) (table_of sheet).count) (table_of own) → replay_refusal own log ≡ 0 → (replay_answer own log).counts.missed ≡ 0
  reported-misses-none core some = core-misses-none (table_of sheet) good (is_reported core) (table_of sheet).count (omega arith) (reported-passes core some)

-- One core: the answer is a core for every record exactly if the sheet passes with each q equal to p
pub one-core-reported : (sheet : List ℕ) → box_refusal sheet 1 ≡ 0 → ((placing_answer sheet 1).fit ≡ Everyone) ↔ (passes (raised_tasks (table_of sheet)) ≡ true)
unfolding placing_answer placing_of
one-core-reported sheet fine =
    let exactly = one-core (table_of sheet) (box-good sheet 1 fine) in
    (λ told. exactly.0 (everyone-told (box_refusal sheet 1) (own_tasks (table_of sheet)) 1 told).1, λ e. simp (eq-eqb (box_refusal sheet 1) 0 fine, eq-eqb (fits_none (own_tasks (table_of sheet)) 1) 0 (exactly.1 e)))
