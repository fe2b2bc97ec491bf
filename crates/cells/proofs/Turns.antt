-- One byte more of each definition that goes over bytes: what a loop's turn shows. Assumes nothing.
use Rattle.std.specs.Prelude.{fold}
use Rattle.std.specs.List.{list_all}
use lib.Pointwise.{pointwise}
use Prim.Native.Nat.{ℕ, suc, ◌+◌, ◌<◌}
use mathlib.Core.Path.{◌≡◌, refl, sym, ap}
use mathlib.Core.Bool.{Bool, true, false, cond, not, ◌&&◌, ◌||◌}
use mathlib.Core.List.{List, [], ◌∷◌}
use native.Mathlib.Numerals.{add-one}
use native.Mathlib.Omega.{arith}
use lib.Dec.{eqb}
use lib.ListN.{length, get_or, drop}
use lib.Seq.{drop-cons}
use Rattle.cells.specs.declared.Span.{Span}
use Rattle.cells.specs.declared.Cells.{Cells}
use Rattle.cells.specs.declared.Number.{Number}
use Rattle.cells.specs.declared.Label.{Label}
use Rattle.cells.specs.declared.Spelling.{Spelling}
use Rattle.cells.specs.Kinds.{is_digit, is_point}
use Rattle.cells.specs.Cells.{turned, cells_after, span_after, cells_from, has_outside}
use Rattle.cells.specs.Numbers.{paired, are_digits, with_digit, value_from}
use Rattle.cells.specs.Names.{same, with_byte, label_from, spelled_after, spelled_from}

module _ (line : List ℕ) (at : ℕ) (below : at < length line) where
  pub cells-more : (cells : Cells) (separator : ℕ) (span : Span)
      → cells_from cells separator span at (drop at line)
      ≡ cells_from (cells_after cells separator span (get_or line at 0)) separator (span_after separator span (get_or line at 0) at) (at + 1) (drop (at + 1) line)
  unfolding cells_from
  cells-more cells separator span = rw (drop-cons line at 0 below, ← (add-one at)) refl

  -- the wanted byte, and any other
  pub outside-found : (wanted : ℕ) (quoted : Bool) → (not quoted && eqb (get_or line at 0) wanted) ≡ true → has_outside wanted quoted (drop at line) ≡ true
  unfolding has_outside
  outside-found wanted quoted e = rw (drop-cons line at 0 below, e) refl

  pub outside-more : (wanted : ℕ) (quoted : Bool) → (not quoted && eqb (get_or line at 0) wanted) ≡ false
      → has_outside wanted quoted (drop at line) ≡ has_outside wanted (turned quoted (get_or line at 0)) (drop (at + 1) line)
  unfolding has_outside
  outside-more wanted quoted e = rw (drop-cons line at 0 below, add-one, e) refl

never : false ≡ true → ⊥
never e =
    let z : ◌≡◌ {A = ℕ} 0 1 = cc in
    omega arith

-- a quote that stands alone, and a byte that is fine
pair-alone : (is odd : Bool) (p : Bool → Bool) → (odd && not is) ≡ true → cond is (p (not odd)) (not odd && p odd) ≡ false
pair-alone true true p e = absurd (never e)
pair-alone true false p e = absurd (never e)
pair-alone false true p e = refl
pair-alone false false p e = absurd (never e)

pair_turn : (is odd : Bool) (p : Bool → Bool) → (odd && not is) ≡ false → cond is (p (not odd)) (not odd && p odd) ≡ p (cond is (not odd) odd)
pair_turn true odd p e = refl
pair_turn false true p e = absurd (never (sym e))
pair_turn false false p e = refl

module _ (bytes : List ℕ) (at : ℕ) (below : at < length bytes) (odd : Bool) where
  pub pairs_end : (odd && not (eqb (get_or bytes at 0) 34)) ≡ true → paired odd (drop at bytes) ≡ false
  unfolding paired
  pairs_end e = rw (drop-cons bytes at 0 below) (pair-alone (eqb (get_or bytes at 0) 34) odd (λ (b : Bool). paired b (drop (suc at) bytes)) e)

  pub pairs-more : (odd && not (eqb (get_or bytes at 0) 34)) ≡ false → paired odd (drop at bytes) ≡ paired (turned odd (get_or bytes at 0)) (drop (at + 1) bytes)
  unfolding paired turned
  pairs-more e = rw (drop-cons bytes at 0 below, add-one) (pair_turn (eqb (get_or bytes at 0) 34) odd (λ (b : Bool). paired b (drop (suc at) bytes)) e)

-- what is read byte by byte is a fold
pub value_folds : (number : Number) (bytes : List ℕ) → value_from number bytes ≡ fold with_digit number bytes
unfolding value_from
value_folds number [] = refl
value_folds number (byte ∷ bytes) = value_folds (with_digit number byte) bytes

pub label_folds : (label : Label) (bytes : List ℕ) → label_from label bytes ≡ fold with_byte label bytes
unfolding label_from
label_folds label [] = refl
label_folds label (byte ∷ bytes) = label_folds (with_byte label byte) bytes

-- whether all bytes are digits, and whether two lists are the same
pub digits_all : (points : Bool) (bytes : List ℕ) → are_digits points bytes ≡ list_all (λ byte. is_digit byte || (points && is_point byte)) bytes
unfolding are_digits
digits_all points [] = refl
digits_all points (byte ∷ bytes) = ap (λ rest. (is_digit byte || (points && is_point byte)) && rest) (digits_all points bytes)

pub same_pointwise : (a b : List ℕ) → same a b ≡ pointwise eqb a b
unfolding same
same_pointwise [] [] = refl
same_pointwise [] (y ∷ b) = refl
same_pointwise (x ∷ a) [] = refl
same_pointwise (x ∷ a) (y ∷ b) = ap (λ rest. eqb x y && rest) (same_pointwise a b)

pub spelling_folds : (quoted : Bool) (spelling : Spelling) (bytes : List ℕ) → spelled_from quoted spelling bytes ≡ fold (spelled_after quoted) spelling bytes
unfolding spelled_from
spelling_folds quoted spelling [] = refl
spelling_folds quoted spelling (byte ∷ bytes) = spelling_folds quoted (spelled_after quoted spelling byte) bytes
