-- A number read digit by digit. Assumes nothing.
use Rattle.std.proofs.Common.{◌≡◌, ℕ, ◌+◌, ◌<◌, ◌≤◌, true, false, List, length, get_or, drop, sym, refl, add-zero, drop_of_length-le}
use Rattle.rows.specs.declared.list.Digits.{Digits}
use Rattle.rows.specs.Lists.{ends, grown, number_from, digits_of, number_at}
use Rattle.rows.proofs.Places.{left, further}

-- what is read from a place on after a number
unfoldable pub read_from : List ℕ → ℕ → ℕ → Digits
read_from list value place = record { value = number_from value (drop place list); «end» = place + digits_of (drop place list) }

pub read-start : (list : List ℕ) (at : ℕ) → read_from list 0 at ≡ number_at list at
unfolding read_from number_at
read-start list at = refl

module _ (list : List ℕ) (value place : ℕ) where
  pub read-end : length list ≤ place → read_from list value place ≡ record { value = value; «end» = place }
  unfolding read_from number_from digits_of
  read-end h = rw (drop_of_length-le list h) (simp add-zero)

  module _ (h : place < length list) where
    pub read-stop : ends (get_or list place 0) ≡ true → read_from list value place ≡ record { value = value; «end» = place }
    unfolding read_from number_from digits_of
    read-stop e = rw (left list 0 place h) (simp (e, add-zero))

    pub read-on : ends (get_or list place 0) ≡ false → read_from list (grown value (get_or list place 0)) (place + 1) ≡ read_from list value place
    unfolding read_from number_from digits_of
    read-on e = sym (rw (left list 0 place h) (simp (e, further)))
