-- What a chain of iterators tells of a list's first elements, or of a range, as what is said over the places below a count. Assumes nothing.
use Rattle.std.proofs.Common.{◌≡◌, ℕ, zero, suc, ◌+◌, ◌≤◌, Bool, true, false, cond, filter, length-append, ◌||◌, List, [], ◌∷◌, ◌++◌, length, take, get_or, refl, ap, ap₂, ◌∙◌, zero-add, arith}
use Rattle.std.proofs.Math.Bool.{or-false}
use Rattle.std.proofs.Math.Seq.{take-suc}
use Rattle.std.proofs.Math.Nat.{add-zero}
use Rattle.std.proofs.lemmas.List.Folds.{list_any-append}
use Rattle.std.specs.List.{list_any, range_with_len}
use Rattle.std.proofs.lemmas.List.Elements.{filter-append}
use Rattle.places.specs.Places.{some_below, one_if, count_below}

module _ {A : Type 0} (none : A) where
  -- `any` over the first elements of a list
  pub some-listed : (test : A → Bool) (list : List A) (n : ℕ) → n ≤ length list → list_any test (take n list) ≡ some_below (λ place. test (get_or list place none)) n
  unfolding some_below
  some-listed test list zero within = refl
  some-listed test list (suc n) within =
      ap (list_any test) (take-suc list n none (omega arith))
      ∙ list_any-append test (take n list) (get_or list n none ∷ [])
      ∙ ap₂ ◌||◌ (some-listed test list n (omega arith)) (or-false (test (get_or list n none)))

-- a range with its last place
range-suc : (from n : ℕ) → range_with_len from (suc n) ≡ range_with_len from n ++ (from + n) ∷ []
range-suc from zero = simp (add-zero from)
range-suc from (suc n) = ap (λ (l : List ℕ). from ∷ l) (range-suc (from + 1) n) ∙ ap (λ (k : ℕ). from ∷ (range_with_len (from + 1) n ++ k ∷ [])) (omega arith)

-- `any` over the places below a count
pub some-ranged : (test : ℕ → Bool) (n : ℕ) → list_any test (range_with_len 0 n) ≡ some_below test n
unfolding some_below
some-ranged test zero = refl
some-ranged test (suc n) =
    ap (list_any test) (range-suc 0 n ∙ ap (λ (k : ℕ). range_with_len 0 n ++ k ∷ []) (zero-add n))
    ∙ list_any-append test (range_with_len 0 n) (n ∷ [])
    ∙ ap₂ ◌||◌ (some-ranged test n) (or-false (test n))

module _ {A : Type 0} (none : A) where
  one-kept : (test : A → Bool) (a : A) → length (filter test (a ∷ [])) ≡ one_if (test a)
  unfolding one_if
  one-kept test a = go (test a)
    where
      go : (b : Bool) → length (cond b (a ∷ []) []) ≡ cond b 1 0
      go true = refl
      go false = refl

  -- `filter` and `count` over the first elements of a list
  pub count-listed : (test : A → Bool) (list : List A) (n : ℕ) → n ≤ length list → length (filter test (take n list)) ≡ count_below (λ place. test (get_or list place none)) n
  unfolding count_below
  count-listed test list zero within = refl
  count-listed test list (suc n) within =
      ap (λ (l : List A). length (filter test l)) (take-suc list n none (omega arith))
      ∙ ap length (filter-append test (take n list) (get_or list n none ∷ []))
      ∙ length-append (filter test (take n list)) (filter test (get_or list n none ∷ []))
      ∙ ap₂ ◌+◌ (count-listed test list n (omega arith)) (one-kept test (get_or list n none))
