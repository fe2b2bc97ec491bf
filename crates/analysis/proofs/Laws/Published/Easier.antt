-- A task that is asked less of is done no later: a larger interval never lengthens a response, and a larger M or N never shortens one, for every table, choice, place
-- and limit. Assumes nothing.
use Prim.Native.Nat.{ℕ, ◌-◌, ◌≤◌}
use mathlib.Core.Path.{◌≡◌}
use mathlib.Core.List.{List}
use native.Mathlib.Nat.{le_trans, mul-le-mul_left, mul-le-mul_right}
use native.Mathlib.Omega.{arith}
use lib.ListN.{get_or}
use Rattle.sheet.specs.declared.Table.{Table}
use Rattle.analysis.specs.Common.Rounding.{up}
use Rattle.analysis.specs.Common.Tasks.{tasks_of}
use Rattle.analysis.specs.Common.Backups.{largest_backup, backup_elsewhere, backup_from_fault}
use Rattle.analysis.specs.Published.Equations.{is_between, struck_elsewhere, struck_itself, asked_elsewhere, asked_itself}
use Rattle.analysis.specs.Published.Response.{time_elsewhere, time_itself, response_within}
use Rattle.analysis.proofs.Laws.Common.Rounding.{up-enough, up_least}
use Rattle.analysis.proofs.Laws.Published.Larger.{response-easier}
use Rattle.analysis.proofs.Laws.Common.Easier.{NoLater, least-easier}

-- faults that come less often are no more
pub up-falls : (a b c : ℕ) → 1 ≤ b → b ≤ c → up a c ≤ up a b
up-falls a b c some less = up_least a c (omega arith) (up a b) (le_trans (up-enough a b some) (mul-le-mul_left (up a b) less))

-- "a larger interval never lengthens a response"
module _ (t : Table) (choice : List ℕ) (i limit short long : ℕ) (some : 1 ≤ short) (less : short ≤ long) where
  elsewhere-falls : NoLater (time_elsewhere limit (tasks_of t long choice) i) (time_elsewhere limit (tasks_of t short choice) i)
  unfolding time_elsewhere struck_elsewhere asked_elsewhere backup_elsewhere largest_backup
  elsewhere-falls = least-easier _ _ limit (λ L low. omega (arith, mul-le-mul_right (backup_elsewhere (tasks_of t short choice) i) (up-falls L short long some less)))

  itself-falls : NoLater (time_itself limit (tasks_of t long choice) i) (time_itself limit (tasks_of t short choice) i)
  unfolding time_itself struck_itself asked_itself backup_from_fault largest_backup is_between
  itself-falls = least-easier _ _ limit (λ L low. omega (arith, mul-le-mul_right (backup_from_fault (tasks_of t short choice) i) (fewer L)))
    where
      fewer : (L : ℕ) → up L long - 1 ≤ up L short - 1
      fewer L = omega (arith, up-falls L short long some less)

  pub falls-with-interval : NoLater (response_within limit (tasks_of t long choice) i) (response_within limit (tasks_of t short choice) i)
  falls-with-interval = response-easier limit _ _ i elsewhere-falls itself-falls

-- a choice reaches a task only through its own fault priority, through M and through N
module _ (t : Table) (interval i limit : ℕ) (low high : List ℕ) where
  -- "larger M never shortens one"
  pub rises-with-M : backup_elsewhere (tasks_of t interval low) i ≤ backup_elsewhere (tasks_of t interval high) i
      → NoLater (time_elsewhere limit (tasks_of t interval low) i) (time_elsewhere limit (tasks_of t interval high) i)
  unfolding time_elsewhere struck_elsewhere asked_elsewhere
  rises-with-M less = least-easier _ _ limit (λ L some. omega (arith, mul-le-mul_left (up L interval) less))

  -- "larger N never shortens one"
  pub rises-with-N : get_or low i 0 ≡ get_or high i 0 → backup_from_fault (tasks_of t interval low) i ≤ backup_from_fault (tasks_of t interval high) i
      → NoLater (time_itself limit (tasks_of t interval low) i) (time_itself limit (tasks_of t interval high) i)
  unfolding time_itself struck_itself asked_itself is_between
  rises-with-N same less = least-easier _ _ limit (λ L some. rw same (omega (arith, mul-le-mul_left (up L interval - 1) less)))

  pub rises-with-both : get_or low i 0 ≡ get_or high i 0 → backup_elsewhere (tasks_of t interval low) i ≤ backup_elsewhere (tasks_of t interval high) i → backup_from_fault (tasks_of t interval low) i ≤ backup_from_fault (tasks_of t interval high) i
      → NoLater (response_within limit (tasks_of t interval low) i) (response_within limit (tasks_of t interval high) i)
  rises-with-both same first second = response-easier limit _ _ i (rises-with-M first) (rises-with-N same second)
