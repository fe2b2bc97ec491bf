-- What of a choice a record sees: its own fault priority, M and N. So what a choice holds past the count plays no part: two that agree below it give each record the same answer, and the same verdict. Assumes nothing.
use Prim.Native.Nat.{ℕ, ◌<◌}
use mathlib.Core.Path.{◌≡◌, ap, ap₂, ◌∙◌}
use mathlib.Core.Bool.{Bool, not}
use mathlib.Core.List.{List}
use lib.ListN.{get_or}
use Rattle.places.proofs.Agree.{some-agree, most-agree}
use Rattle.sheet.specs.declared.Table.{Table}
use Rattle.sheet.specs.Layout.{record_at}
use Rattle.analysis.specs.Common.Tasks.{tasks_of}
use Rattle.analysis.specs.Common.Backups.{everyone, others, backup_of, largest_backup, backup_elsewhere, backup_from_fault}
use Rattle.analysis.specs.Published.Equations.{is_between, struck_elsewhere, struck_itself, asked_elsewhere, asked_itself}
use Rattle.analysis.specs.Common.Search.{least_within}
use Rattle.analysis.specs.Published.Response.{time_elsewhere, time_itself, response_within, response_time, passes}
use Rattle.analysis.specs.Common.Entries.{is_late, entry_from}
use Rattle.analysis.specs.Published.Answers.{entry_of}

-- a choice reaches a record only through its own fault priority, through M and through N: two that give it the same three give it one response, within every limit
module _ (t : Table) (interval : ℕ) (c d : List ℕ) (limit i : ℕ) where
  elsewhere-alike : backup_elsewhere (tasks_of t interval c) i ≡ backup_elsewhere (tasks_of t interval d) i → time_elsewhere limit (tasks_of t interval c) i ≡ time_elsewhere limit (tasks_of t interval d) i
  unfolding time_elsewhere struck_elsewhere asked_elsewhere
  elsewhere-alike first = ap (λ (M : ℕ). least_within (asked_elsewhere (tasks_of t interval c) i M) 1 limit) first

  itself-alike : get_or c i 0 ≡ get_or d i 0 → backup_from_fault (tasks_of t interval c) i ≡ backup_from_fault (tasks_of t interval d) i → time_itself limit (tasks_of t interval c) i ≡ time_itself limit (tasks_of t interval d) i
  unfolding time_itself struck_itself asked_itself is_between
  itself-alike own second = ap₂ (λ (q N : ℕ). least_within (asked_itself (tasks_of t interval c) i q N) 1 limit) own second

  pub response-alike : get_or c i 0 ≡ get_or d i 0 → backup_elsewhere (tasks_of t interval c) i ≡ backup_elsewhere (tasks_of t interval d) i → backup_from_fault (tasks_of t interval c) i ≡ backup_from_fault (tasks_of t interval d) i
      → response_within limit (tasks_of t interval c) i ≡ response_within limit (tasks_of t interval d) i
  unfolding response_within
  response-alike own first second = simp (elsewhere-alike first, itself-alike own second)

module _ (t : Table) (interval : ℕ) (c d : List ℕ) (same : (k : ℕ) → k < t.count → get_or c k 0 ≡ get_or d k 0) where
  -- the same largest backup at or above each priority
  largest-same : (meant : ℕ → Bool) (priority : ℕ) → largest_backup (tasks_of t interval c) meant priority ≡ largest_backup (tasks_of t interval d) meant priority
  unfolding largest_backup
  largest-same meant priority = most-agree t.count (λ k h. ap (λ (q : ℕ). backup_of (record_at t.records k) (meant k) q priority) (same k h))

  -- so each record has the same response
  pub response-same : (limit i : ℕ) → i < t.count → response_within limit (tasks_of t interval c) i ≡ response_within limit (tasks_of t interval d) i
  unfolding backup_elsewhere backup_from_fault
  response-same limit i below =
      response-alike t interval c d limit i (same i below) (largest-same (others i) (record_at t.records i).priority)
      (largest-same everyone (get_or c i 0) ∙ ap (largest_backup (tasks_of t interval d) everyone) (same i below))

  -- the same entry
  pub entry-same : (i : ℕ) → i < t.count → entry_of (tasks_of t interval c) i ≡ entry_of (tasks_of t interval d) i
  unfolding entry_of response_time
  entry-same i below = ap (entry_from (record_at t.records i).deadline) (response-same 65535 i below)

  -- and the table the same verdict
  pub passes_same : passes (tasks_of t interval c) ≡ passes (tasks_of t interval d)
  unfolding passes response_time
  passes_same = ap not (some-agree t.count (λ i below. ap (is_late (record_at t.records i).deadline) (response-same 65535 i below)))
