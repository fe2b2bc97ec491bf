-- The equations, line by line: what L has to be at least, for record i. Struck elsewhere is document 01's, struck itself that of document 02's request 3, and both have the supplier's term of its request 6.
use Rattle.std.specs.Prelude.{ℕ, ◌+◌, ◌-◌, ◌*◌, Bool, cond, ◌&&◌, ltb}
use Rattle.places.specs.Places.{sum_below}
use Rattle.analysis.specs.Common.Rounding.{up}
use Rattle.analysis.specs.Common.Tasks.{Tasks}
use Rattle.analysis.specs.Common.Backups.{backup_elsewhere, backup_from_fault}
use Rattle.analysis.specs.Common.Supplier.{supplier_of}

-- "tasks above q and below p": by own priority, strictly
unfoldable pub is_between : Tasks → ℕ → ℕ → ℕ → Bool
is_between s i q k = ltb q (s.at k).priority && ltb (s.at k).priority (s.at i).priority

-- "C of i, plus up(L, T) × C for each record with a priority above p of i, plus up(L, E) × M."
unfoldable pub asked_elsewhere : Tasks → ℕ → ℕ → ℕ → ℕ
asked_elsewhere s i M L =
    (s.at i).cost
    + sum_below (λ k. cond (ltb (s.at i).priority (s.at k).priority) (up L (s.at k).period * (s.at k).cost) 0) s.count
    + up L s.interval * M
    + supplier_of s.round s.share L

-- with its own M
unfoldable pub struck_elsewhere : Tasks → ℕ → ℕ → ℕ
struck_elsewhere s i = asked_elsewhere s i (backup_elsewhere s i)

-- document 02, request 3: "C + B, plus up(L, T) × C for tasks above p, plus (1 + up(L, T)) × C for tasks above q and below p, plus (up(L, E) − 1) × N"
unfoldable pub asked_itself : Tasks → ℕ → ℕ → ℕ → ℕ → ℕ
asked_itself s i q N L =
    (s.at i).cost + (s.at i).backup
    + sum_below (λ k. cond (ltb (s.at i).priority (s.at k).priority) (up L (s.at k).period * (s.at k).cost) 0) s.count
    + sum_below (λ k. cond (is_between s i q k) ((1 + up L (s.at k).period) * (s.at k).cost) 0) s.count
    + (up L s.interval - 1) * N
    + supplier_of s.round s.share L

-- with its own q and N
unfoldable pub struck_itself : Tasks → ℕ → ℕ → ℕ
struck_itself s i = asked_itself s i (s.fault i) (backup_from_fault s i)
