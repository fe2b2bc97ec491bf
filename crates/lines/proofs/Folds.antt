-- A line's cells read one after the other are a fold over their places. Assumes nothing.
use Prim.Native.Nat.{ℕ, zero, suc, ◌+◌, ◌≤◌}
use mathlib.Core.Path.{◌≡◌, refl, sym, ap, ap₂, ◌∙◌}
use mathlib.Core.Bool.{Bool}
use mathlib.Core.List.{List, [], ◌∷◌, ◌++◌}
use native.Mathlib.Omega.{arith}
use lib.ListN.{length, get_or, take, drop}
use lib.Seq.{take-suc, drop-cons, length-take-le, set-append_seam}
use Rattle.std.proofs.Common.{append_assoc}
use Rattle.places.specs.Places.{filled_below}
use Rattle.std.specs.Prelude.{fold}
use Rattle.std.specs.List.{range_with_len}
use Rattle.std.proofs.lemmas.List.Sums.{fold_push}
use Rattle.cells.specs.declared.Cells.{Cells}
use Rattle.lines.specs.declared.Reading.{Reading}
use Rattle.lines.specs.Troubles.{start_of, end_of}
use Rattle.lines.specs.Lines.{cell_read, cells_read}

-- one place more
range_push : (a n : ℕ) → range_with_len a (suc n) ≡ range_with_len a n ++ ((a + n) ∷ [])
range_push a zero = ap (λ k. k ∷ []) (omega arith)
range_push a (suc n) = ap (λ l. a ∷ l) (range_push (a + 1) n ∙ ap (λ k. range_with_len (a + 1) n ++ (k ∷ [])) (omega arith))

module _ (is_header : Bool) (number : ℕ) (line : List ℕ) (cells : Cells) where
  abbrev pub step : Reading → ℕ → Reading
  step next place = cell_read is_header next number line place (start_of cells place) (end_of cells place)

  pub cells_fold : (r : Reading) (count : ℕ) → fold step r (range_with_len 0 count) ≡ cells_read is_header r number line cells count
  unfolding cells_read
  cells_fold r zero = refl
  cells_fold r (suc count) =
      ap (fold step r) (range_push 0 count) ∙ fold_push step r (range_with_len 0 count) (0 + count) ∙ ap₂ step (cells_fold r count) (omega arith)

-- a list whose first values are copied from another is filled with them
pub copied_filled : {A : Type 0} (d : A) (from room : List A) (n : ℕ) → n ≤ length from → n ≤ length room → take n from ++ drop n room ≡ filled_below (λ place. get_or from place d) n room
unfolding filled_below
copied_filled d from room zero fits within = refl
copied_filled d from room (suc n) fits within =
    let value = get_or from n d in
    let before = copied_filled d from room n (omega arith) (omega arith) in
    let seam = set-append_seam (take n from) (get_or room n d) (drop (suc n) room) value in
    simp (take-suc from n d (omega arith), append_assoc (take n from) (value ∷ []) (drop (suc n) room))
    (sym (rw (sym before, drop-cons room n d (omega arith)) (rw (length-take-le n from (omega arith)) at seam)))
