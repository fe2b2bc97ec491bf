-- The end of an answer, none where it does not stand in the list, as a place that no list reaches: what each call says of it. Assumes nothing.
use Rattle.std.proofs.Common.{◌≡◌, ℕ, ◌≤◌, Bool, true, false, cond, Option, Some, None, List, [], ◌∷◌, length, get_or, drop, ◌==◌, refl, sym, ap, ◌∙◌, add-zero, drop_of_length-le}
use lib.ListN.{get_or-eq_default}
use Rattle.rows.specs.Answers.{missed, begins, said, number_said, hex_text, bytes_said, text_end, number_end, bytes_end, ends_line}

-- the place of an end
unfoldable pub place_of : Option ℕ → ℕ
place_of None = missed
place_of (Some place) = place

-- an end that a test lets through
chosen : (place : ℕ) (test : Bool) → place_of (cond test (Some place) None) ≡ cond test place missed
unfolding place_of
chosen place true = refl
chosen place false = refl

-- an end that two tests let through
chosen-by-both : (place : ℕ) (none some : Bool) → place_of (cond none None (cond some (Some place) None)) ≡ cond none missed (cond some place missed)
unfolding place_of
chosen-by-both place true some = refl
chosen-by-both place false some = chosen place some

-- nothing but no text stands past a list
past : (list text : List ℕ) → length list ≤ missed → said list missed text ≡ missed
unfolding said begins
past list [] short = add-zero missed
past list (x ∷ text) short = rw (drop_of_length-le list short) refl

module _ (list : List ℕ) (short : length list ≤ missed) where
  pub text-said : (text : List ℕ) (at : Option ℕ) → place_of (text_end list at text) ≡ said list (place_of at) text
  unfolding text_end said place_of
  text-said text None = sym (past list text short)
  text-said text (Some at) = chosen _ (begins (drop at list) text)

  pub bytes-said : (bytes : List ℕ) (at : Option ℕ) → place_of (bytes_end list at bytes) ≡ bytes_said list (place_of at) bytes
  unfolding bytes_end bytes_said
  bytes-said [] at = refl
  bytes-said (value ∷ values) at = bytes-said values (text_end list at (hex_text value)) ∙ ap (λ (place : ℕ). bytes_said list place values) (text-said (hex_text value) at)

  pub line-ended : (at : Option ℕ) → ends_line list at ≡ (get_or list (place_of at) 0 == 10)
  unfolding ends_line place_of
  line-ended None = ap (λ (byte : ℕ). byte == 10) (sym (get_or-eq_default list 0 short))
  line-ended (Some at) = refl

pub number-said : (list : List ℕ) (value at : ℕ) → place_of (number_end list (Some at) value) ≡ number_said list at value
unfolding number_end number_said
number-said list value at = chosen-by-both _ _ _
