-- What the code computes with: the table of a core that a record is tried on, by value. An inner device, tied to a core's tasks by laws; no public promise cites it.
use Rattle.std.specs.Prelude.{ℕ, suc, ◌<◌, ◌≡◌}
use Rattle.sheet.specs.declared.Table.{Table}
use Rattle.sheet.specs.Layout.{record_at}
use Rattle.analysis.specs.Common.Tasks.{Tasks}
use Rattle.analysis.specs.Common.Entries.{own_tasks}
use Rattle.cores.specs.Renumbered.{core_tasks}
use Rattle.cores.specs.FirstFit.{joins}

-- a table that holds some tasks
pub record Holds (s : Tasks) (t : Table) : Type 0 where
  pub count : t.count ≡ s.count
  pub interval : t.interval ≡ s.interval
  pub round : t.round ≡ s.round
  pub share : t.share ≡ s.share
  pub task : (j : ℕ) → j < s.count → record_at t.records j ≡ s.at j

-- the records on the core and the one at the place, in record order, each with its priority on the core
abbrev pub Tried : Table → (ℕ → ℕ) → ℕ → ℕ → Table → Type 0
Tried t cores place core tried = Holds (core_tasks (own_tasks t) (joins cores place core) (suc place)) tried
