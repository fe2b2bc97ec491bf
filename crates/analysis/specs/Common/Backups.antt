-- The largest backup at or above a priority: M and N of document 01.
use Rattle.std.specs.Prelude.{ℕ, Bool, true, cond, not, ◌&&◌, eqb, leb}
use Rattle.places.specs.Places.{most_below}
use Rattle.sheet.specs.declared.Record.{Record}
use Rattle.analysis.specs.Common.Tasks.{Tasks}

-- the records but the one at the place
unfoldable pub others : ℕ → ℕ → Bool
others place k = not (eqb k place)

-- all records
unfoldable pub everyone : ℕ → Bool
everyone k = true

-- B of a record, if it is meant and its q is at or above the priority, else 0
unfoldable pub backup_of : Record → Bool → ℕ → ℕ → ℕ
backup_of r is_meant fault priority = cond (is_meant && leb priority fault) r.backup 0

-- the largest B among the records meant with q at or above the priority, or 0
unfoldable pub largest_backup : Tasks → (ℕ → Bool) → ℕ → ℕ
largest_backup s meant priority = most_below (λ k. backup_of (s.at k) (meant k) (s.fault k) priority) s.count

-- "M is the largest B among the other records with q ≥ p of i, or 0."
unfoldable pub backup_elsewhere : Tasks → ℕ → ℕ
backup_elsewhere s i = largest_backup s (others i) (s.at i).priority

-- "N is the largest B among all records, i included, with q ≥ q of i."
unfoldable pub backup_from_fault : Tasks → ℕ → ℕ
backup_from_fault s i = largest_backup s everyone (s.fault i)
