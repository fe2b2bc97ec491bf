-- The demands on a line's cells in the request's words. Assumes nothing.
use Prim.Native.Nat.{ℕ, suc}
use mathlib.Core.Path.{◌≡◌, refl, ap, ◌∙◌}
use mathlib.Core.Bool.{Bool, true, false, cond, not, ◌&&◌}
use mathlib.Core.List.{List, [], ◌∷◌}
use native.Mathlib.Omega.{arith}
use lib.ListN.{length}
use Rattle.cells.specs.Kinds.{separates}
use Rattle.cells.specs.Cells.{turned}
use Rattle.cells.specs.Raw.{with_first, raw_cells, separators_in, joined}

joined-first : (byte : ℕ) (separators : List ℕ) (cells : List (List ℕ)) → joined separators (with_first byte cells) ≡ byte ∷ joined separators cells
unfolding joined with_first
joined-first byte [] [] = refl
joined-first byte [] (cell ∷ cells) = refl
joined-first byte (separator ∷ separators) [] = refl
joined-first byte (separator ∷ separators) (cell ∷ cells) = refl

-- "no cell is lost or read twice": the raw cells of a line with its separators between them are the line again
pub cells-joined : (separator : ℕ) (quoted : Bool) (line : List ℕ) → joined (separators_in separator quoted line) (raw_cells separator quoted line) ≡ line
unfolding joined separators_in raw_cells
cells-joined separator quoted [] = refl
cells-joined separator quoted (byte ∷ bytes) = go (not quoted && separates separator byte) (cells-joined separator false bytes) (cells-joined separator (turned quoted byte) bytes)
  where
    go : (ends : Bool) → joined (separators_in separator false bytes) (raw_cells separator false bytes) ≡ bytes
        → joined (separators_in separator (turned quoted byte) bytes) (raw_cells separator (turned quoted byte) bytes) ≡ bytes
        → joined (cond ends (byte ∷ separators_in separator false bytes) (separators_in separator (turned quoted byte) bytes)) (cond ends ([] ∷ raw_cells separator false bytes) (with_first byte (raw_cells separator (turned quoted byte) bytes)))
        ≡ byte ∷ bytes
    go true next rest = ap (λ (l : List ℕ). byte ∷ l) next
    go false next rest = joined-first byte (separators_in separator (turned quoted byte) bytes) (raw_cells separator (turned quoted byte) bytes) ∙ ap (λ (l : List ℕ). byte ∷ l) rest

first-kept : (byte : ℕ) (cells : List (List ℕ)) (n : ℕ) → length cells ≡ suc n → length (with_first byte cells) ≡ suc n
unfolding with_first
first-kept byte [] n e = absurd (omega arith)
first-kept byte (cell ∷ cells) n e = e

-- "there is one more cell than separators outside quotes"
pub cells-counted : (separator : ℕ) (quoted : Bool) (line : List ℕ) → length (raw_cells separator quoted line) ≡ suc (length (separators_in separator quoted line))
unfolding separators_in raw_cells
cells-counted separator quoted [] = refl
cells-counted separator quoted (byte ∷ bytes) = go (not quoted && separates separator byte) (cells-counted separator false bytes) (cells-counted separator (turned quoted byte) bytes)
  where
    go : (ends : Bool) → length (raw_cells separator false bytes) ≡ suc (length (separators_in separator false bytes))
        → length (raw_cells separator (turned quoted byte) bytes) ≡ suc (length (separators_in separator (turned quoted byte) bytes))
        → length (cond ends ([] ∷ raw_cells separator false bytes) (with_first byte (raw_cells separator (turned quoted byte) bytes)))
        ≡ suc (length (cond ends (byte ∷ separators_in separator false bytes) (separators_in separator (turned quoted byte) bytes)))
    go true next rest = ap suc next
    go false next rest = first-kept byte (raw_cells separator (turned quoted byte) bytes) (length (separators_in separator (turned quoted byte) bytes)) rest
