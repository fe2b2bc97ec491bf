-- What the code computes with: the records held from the highest priority to the lowest, so that "above" is "before", and one demand for both equations. An inner device, tied to the equations by laws; no public promise cites it.
use Rattle.std.specs.Prelude.{ℕ, ◌+◌, ◌-◌, ◌*◌, true}
use Rattle.places.specs.Places.{sum_below, most_below}
use Rattle.analysis.specs.Common.Rounding.{up}
use Rattle.analysis.specs.Common.Tasks.{Tasks}
use Rattle.analysis.specs.Common.Backups.{backup_of}
use Rattle.analysis.specs.Common.Supplier.{supplier_of}

-- one of the equations as the code computes it, for the record at a rank: a base, the records before the rank and those after it and before the last, the backup paid for each fault, and what is already paid
pub record Demand : Type 0 where
  pub base : ℕ
  pub rank : ℕ
  pub until : ℕ
  pub backup : ℕ
  pub paid : ℕ

-- the largest B among the records before a rank with q at or above the priority, or 0
unfoldable pub largest_before : Tasks → ℕ → ℕ → ℕ
largest_before s until priority = most_below (λ k. backup_of (s.at k) true (s.fault k) priority) until

-- up(L, T) × C of each record from one rank on and before another
unfoldable pub runs_of : Tasks → ℕ → ℕ → ℕ → ℕ
runs_of s from until L = sum_below (λ k. up L (s.at (from + k)).period * (s.at (from + k)).cost) (until - from)

-- the runs of the records before the rank and of those after it and before the last, plus up(L, E) times the backup, plus what the supplier takes
unfoldable pub load_of : Tasks → Demand → ℕ → ℕ
load_of s d L = runs_of s 0 d.rank L + runs_of s (d.rank + 1) d.until L + up L s.interval * d.backup + supplier_of s.round s.share L

-- a base plus the load, less what is already paid
unfoldable pub demand_of : Tasks → Demand → ℕ → ℕ
demand_of s d L = d.base + load_of s d L - d.paid
