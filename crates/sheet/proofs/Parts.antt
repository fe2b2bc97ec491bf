-- The nine bytes of a record within a sheet of the right length, as code takes them: from a start to an end.
-- Assumes nothing.
use Prim.Native.Nat.{ℕ, ◌+◌, ◌*◌, ◌-◌, ◌≤◌, ◌<◌}
use mathlib.Core.Path.{◌≡◌, refl, ap, ◌∙◌}
use mathlib.Core.List.{List}
use native.Mathlib.Nat.{add-sub_cancel_left}
use native.Mathlib.Omega.{arith}
use lib.ListN.{length, take, drop, length-drop}
use lib.Seq.{length-take-le}
use Rattle.sheet.specs.Layout.{edition_of, start_of, part_of, size_of}

-- the bytes that are taken from where the records start are the record's nine
pub part_at : (s : List ℕ) (first k : ℕ) → first ≡ start_of s → take (first + 9 * k + 9 - (first + 9 * k)) (drop (first + 9 * k) s) ≡ part_of s k
unfolding part_of
part_at s first k begun =
    ap (λ (n : ℕ). take n (drop (first + 9 * k) s)) (add-sub_cancel_left (first + 9 * k) 9) ∙ ap (λ (n : ℕ). take 9 (drop (n + 9 * k) s)) begun

-- a place below the count has its nine bytes within the sheet
module _ (s : List ℕ) (n k : ℕ) (size : length s ≡ size_of (edition_of s) n) (below : k < n) where
  pub part_end : (first : ℕ) → first ≡ start_of s → first + 9 * k + 9 ≤ length s
  unfolding start_of size_of
  part_end first begun = omega arith

  pub part-nine : length (part_of s k) ≡ 9
  unfolding part_of
  part-nine = length-take-le 9 (drop (start_of s + 9 * k) s) (simp length-drop (omega (arith, part_end (start_of s) refl)))
