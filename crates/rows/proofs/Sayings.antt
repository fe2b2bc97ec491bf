-- A text held against a list, and bytes said one after the other. Assumes nothing.
use Rattle.std.proofs.Common.{◌≡◌, ℕ, ◌+◌, ◌<◌, ◌≤◌, Bool, false, cond, ◌&&◌, ◌==◌, Option, List, [], ◌∷◌, length, get_or, drop, sym, refl, ap, ◌∙◌, drop_of_length-le, eqb, eq-eqb, ne_eqb}
use native.Mathlib.Decide.{ℕ_discrete}
use Rattle.std.specs.List.{starts_with}
use Rattle.rows.specs.Answers.{begins, text_end, hex_text, bytes_end}
use Rattle.rows.proofs.Places.{left}

-- one byte of the library's test whether a list begins with a text, told the other way round
one-told : (x y : ℕ) (rest : Bool) → Dec (x ≡ y) → (eqb x y && rest) ≡ cond (y == x) rest false
one-told x y rest (yes e) = simp (eq-eqb x y e, eq-eqb y x (sym e))
one-told x y rest (no e) = simp (ne_eqb x y e, ne_eqb y x (λ (h : y ≡ x). e (sym h)))

-- that test is `begins`
pub begins-told : (list text : List ℕ) → starts_with eqb list text ≡ begins list text
unfolding begins
begins-told list [] = refl
begins-told [] (x ∷ text) = refl
begins-told (y ∷ list) (x ∷ text) = one-told x y (starts_with eqb list text) (ℕ_discrete x y) ∙ ap (λ (rest : Bool). cond (y == x) rest false) (begins-told list text)

module _ (list bytes : List ℕ) (at : Option ℕ) (place : ℕ) where
  pub bytes-done : length bytes ≤ place → bytes_end list at (drop place bytes) ≡ at
  unfolding bytes_end
  bytes-done h = rw (drop_of_length-le bytes h) refl

  pub bytes_on : place < length bytes → bytes_end list (text_end list at (hex_text (get_or bytes place 0))) (drop (place + 1) bytes) ≡ bytes_end list at (drop place bytes)
  unfolding bytes_end
  bytes_on h = sym (rw (left bytes 0 place h) refl)
