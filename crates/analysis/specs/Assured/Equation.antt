-- The assured equation, for record i under fault priorities that may lie below the priorities: the least L that is at least C, plus up(L, T) × C for each other task with priority above q of i, plus up(L, E) × N. The supplier's term is nothing on a whole processor, of which alone the assured times speak.
use Rattle.std.specs.Prelude.{ℕ, ◌+◌, ◌*◌, Bool, cond, ◌&&◌, ◌||◌, eqb, ltb}
use Rattle.places.specs.Places.{sum_below, most_below}
use Rattle.analysis.specs.Common.Rounding.{up}
use Rattle.analysis.specs.Common.Tasks.{Tasks}
use Rattle.analysis.specs.Common.Backups.{others}
use Rattle.analysis.specs.Common.Supplier.{supplier_of}

-- "each other task with priority above q of i"
unfoldable pub is_over : Tasks → ℕ → ℕ → ℕ → Bool
is_over s i q k = others i k && ltb q (s.at k).priority

-- "i itself, the tasks with q above q of i, and the tasks with q equal to q of i and a priority above p of i": those whose backups the machine runs before the backup of i, and i
unfoldable pub is_ahead : Tasks → ℕ → ℕ → Bool
is_ahead s i k = eqb k i || (ltb (s.fault i) (s.fault k) || (eqb (s.fault k) (s.fault i) && ltb (s.at i).priority (s.at k).priority))

-- N, "the largest B among" them
unfoldable pub backup_ahead : Tasks → ℕ → ℕ
backup_ahead s i = most_below (λ k. cond (is_ahead s i k) (s.at k).backup 0) s.count

-- "C, plus up(L, T) × C for each other task with priority above q of i, plus up(L, E) × N", and the supplier's term, which is nothing on a whole processor
unfoldable pub asked_assured : Tasks → ℕ → ℕ → ℕ → ℕ → ℕ
asked_assured s i q N L =
    (s.at i).cost
    + sum_below (λ k. cond (is_over s i q k) (up L (s.at k).period * (s.at k).cost) 0) s.count
    + up L s.interval * N
    + supplier_of s.round s.share L

-- with its own q and N
unfoldable pub assured_equation : Tasks → ℕ → ℕ → ℕ
assured_equation s i = asked_assured s i (s.fault i) (backup_ahead s i)
