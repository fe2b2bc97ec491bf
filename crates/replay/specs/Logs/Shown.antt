-- "The supplier sends records with one more byte per tick": the log that a record contains, and what its third bytes must be.
use Rattle.std.specs.Prelude.{ℕ, ◌+◌, ◌%◌, cond, List, [], ◌∷◌, length, ◌==◌}
use Rattle.replay.specs.declared.Machine.{Machine}
use Rattle.replay.specs.Ticks.Counts.{cell_of}
use Rattle.replay.specs.Ticks.Machines.{cells_entered, runner_of, tick}
use Rattle.replay.specs.Logs.Rules.{log_refusal}

-- the log that a record contains: of each three bytes the first two
unfoldable pub log_in : List ℕ → List ℕ
log_in [] = []
log_in (releases ∷ []) = []
log_in (releases ∷ faults ∷ []) = []
log_in (releases ∷ faults ∷ ran ∷ supplied) = releases ∷ faults ∷ log_in supplied

-- "the priority of the task that ran, 0 for idle, with the top bit set for a backup": what the machine's next tick must show
unfoldable pub shown : Machine → ℕ → ℕ
shown m releases = runner_of m releases + cond (cell_of (cells_entered m releases) (runner_of m releases)).is_backup 128 0

-- how many ticks of a record, from its start, show "what Ask 1's rules say"
unfoldable pub matching : Machine → List ℕ → ℕ
matching m [] = 0
matching m (releases ∷ []) = 0
matching m (releases ∷ faults ∷ []) = 0
matching m (releases ∷ faults ∷ ran ∷ supplied) = cond (ran == shown m releases) (matching (tick m releases faults) supplied + 1) 0

-- the refusals of request 1 on the log that the record contains, "with 14 now for a length that is not a multiple of three"
unfoldable pub supplied_refusal : Machine → List ℕ → ℕ
supplied_refusal m supplied = cond (length supplied % 3 == 0) (log_refusal m (log_in supplied)) 14
