-- N out of the backups, the priorities and the choice as lists. An inner device; no public promise cites it.
use Rattle.std.specs.Prelude.{ℕ, cond, ◌&&◌, ◌||◌, List, eqb, ltb, get_or}
use Rattle.places.specs.Places.{most_below}

-- the largest backup among n records of "i itself, the tasks with q above q of i, and the tasks with q equal to q of i and a priority above p of i", or 0
unfoldable pub largest_ahead : List ℕ → List ℕ → List ℕ → ℕ → ℕ → ℕ
largest_ahead backups priorities choice place =
    most_below
    (λ k. cond
    (eqb k place || (ltb (get_or choice place 0) (get_or choice k 0) || (eqb (get_or choice k 0) (get_or choice place 0) && ltb (get_or priorities place 0) (get_or priorities k 0))))
    (get_or backups k 0) 0)
