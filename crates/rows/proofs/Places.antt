-- The search for a byte, turn by turn. Assumes nothing.
use Rattle.std.proofs.Common.{◌≡◌, ℕ, suc, ◌+◌, ◌<◌, ◌≤◌, List, ◌∷◌, length, get_or, drop, sym, ap, ◌∙◌, add-zero, add-one, arith, drop_of_length-le, drop-cons, eq-eqb, ne_eqb}
use Rattle.rows.specs.Lists.{through, after}

-- what is left of a list from a place in it on: the element there, and what is left after it
pub left : {A : Type 0} (l : List A) (d : A) (place : ℕ) → place < length l → drop place l ≡ get_or l place d ∷ drop (place + 1) l
left l d place h = drop-cons l place d h ∙ ap (λ (k : ℕ). get_or l place d ∷ drop k l) (sym (add-one place))

-- one step further with one less to go
pub further : (place rest : ℕ) → place + suc rest ≡ place + 1 + rest
further place rest = omega arith

module _ (list : List ℕ) (place mark : ℕ) where
  pub after-end : length list ≤ place → after list place mark ≡ place
  unfolding after through
  after-end h = rw (drop_of_length-le list h) (add-zero place)

  module _ (h : place < length list) where
    pub after-here : get_or list place 0 ≡ mark → after list place mark ≡ place + 1
    unfolding after through
    after-here e = rw (left list 0 place h) (simp (eq-eqb _ _ e))

    pub after_on : (get_or list place 0 ≡ mark → ⊥) → after list (place + 1) mark ≡ after list place mark
    unfolding after through
    after_on e = sym (rw (left list 0 place h) (simp (ne_eqb _ _ e, further)))

    pub after-past : place < after list place mark
    unfolding after through
    after-past = rw (left list 0 place h) (omega arith)
