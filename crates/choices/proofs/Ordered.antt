-- The choices ascend, so that each stands once. Assumes nothing.
use Prim.Native.Nat.{ℕ, zero, suc, ◌<◌}
use mathlib.Core.Path.{◌≡◌, refl, sym, ap, ◌∙◌}
use mathlib.Core.Bool.{Bool, true, false, cond, ◌&&◌, ◌||◌, false≢true}
use mathlib.Core.List.Memᴰ
use mathlib.Core.List.Memᴰ.{head as here}
use mathlib.Core.List.Memᴰ.{not-nil}
use mathlib.Core.List.Memᴰ.{tail as there}
use mathlib.Core.List.{List, [], ◌∷◌, ◌++◌, map, Memᴰ as In}
use mathlib.Core.Logic.{◌⊎◌, inl, inr, ⊎_elim}
use native.Mathlib.Nat.{le_refl, le_of_suc-le-suc, not-suc-le-zero}
use native.Mathlib.Omega.{arith}
use borrow.Author.Tests.{lt-ltb, le-ltb, ltb-true, eq-eqb, ne_eqb, eqb-true}
use lib.Dec.{eqb, ltb}
use lib.ListN.{length, get_or}
use Rattle.places.proofs.Tells.{both_true}
use Rattle.choices.specs.Choices.{in_row, entries_for, spread, choices_of, sift}
use Rattle.choices.specs.Order.{before}
use Rattle.choices.proofs.Members.{sift-members, row-member, spread-member}

-- a smaller entry decides
before-smaller : (a b : ℕ) (w c : List ℕ) → a < b → before (a ∷ w) (b ∷ c) ≡ true
unfolding before
before-smaller a b w c h = rw (lt-ltb a b h)

-- after the same entry the rest decides
before_same : (q : ℕ) (w c : List ℕ) → before (q ∷ w) (q ∷ c) ≡ before w c
unfolding before
before_same q w c = simp (le-ltb q q (le_refl q), eq-eqb q q refl)

-- so one of the two has decided
before-cases : (a b : ℕ) (w c : List ℕ) → before (a ∷ w) (b ∷ c) ≡ true → (a < b) ⊎ ((a ≡ b) × (before w c ≡ true))
unfolding before
before-cases a b w c = go (ltb a b) refl
  where
    go : (t : Bool) → ltb a b ≡ t → (t || (eqb a b && before w c)) ≡ true → (a < b) ⊎ ((a ≡ b) × (before w c ≡ true))
    go true h e = inl (ltb-true a b h)
    go false h e = let both = both_true (eqb a b) (before w c) e in inr (eqb-true a b both.0, both.1)

-- no choice comes before itself
pub before-irreflexive : (c : List ℕ) → before c c ≡ false
unfolding before
before-irreflexive [] = refl
before-irreflexive (q ∷ c) = before_same q c c ∙ before-irreflexive c

-- of two choices only one comes before the other
pub before-asymmetric : (w c : List ℕ) → before w c ≡ true → before c w ≡ false
unfolding before
before-asymmetric [] c e = absurd (false≢true e)
before-asymmetric (a ∷ w) [] e = absurd (false≢true e)
before-asymmetric (a ∷ w) (b ∷ c) e = go (before-asymmetric w c) (before-cases a b w c e)
  where
    go : (before w c ≡ true → before c w ≡ false) → (a < b) ⊎ ((a ≡ b) × (before w c ≡ true)) → before (b ∷ c) (a ∷ w) ≡ false
    go later (inl h) = simp (le-ltb b a (omega arith), ne_eqb b a (λ z. omega arith))
    go later (inr h) = simp (le-ltb b a (omega arith), eq-eqb b a (sym h.0), later h.1)

-- a choice before one that is before another is before that
pub before-transitive : (a b c : List ℕ) → before a b ≡ true → before b c ≡ true → before a c ≡ true
unfolding before
before-transitive [] b c p q = absurd (false≢true p)
before-transitive (x ∷ a) [] c p q = absurd (false≢true p)
before-transitive (x ∷ a) (y ∷ b) [] p q = absurd (false≢true q)
before-transitive (x ∷ a) (y ∷ b) (z ∷ c) p q = go (before-transitive a b c) (before-cases x y a b p) (before-cases y z b c q)
  where
    go : (before a b ≡ true → before b c ≡ true → before a c ≡ true) → (x < y) ⊎ ((x ≡ y) × (before a b ≡ true)) → (y < z) ⊎ ((y ≡ z) × (before b c ≡ true)) → before (x ∷ a) (z ∷ c) ≡ true
    go later (inl h) (inl k) = before-smaller x z a c (omega arith)
    go later (inl h) (inr k) = before-smaller x z a c (omega arith)
    go later (inr h) (inl k) = before-smaller x z a c (omega arith)
    go later (inr h) (inr k) = ap (λ (n : ℕ). before (x ∷ a) (n ∷ c)) (sym (h.0 ∙ k.0)) ∙ before_same x a c ∙ later h.1 k.1

-- each member comes before every later one
pub data Ascending : List (List ℕ) → Type 0 where
  none : Ascending []
  more : {c : List ℕ} {l : List (List ℕ)} → ((d : List ℕ) → In d l → before c d ≡ true) → Ascending l → Ascending (c ∷ l)

-- what stands at a place is a member
pub in-at : (l : List (List ℕ)) (k : ℕ) → k < length l → In (get_or l k []) l
in-at [] k h = absurd (not-suc-le-zero h)
in-at (c ∷ l) zero h = here refl
in-at (c ∷ l) (suc k) h = there (in-at l k (le_of_suc-le-suc h))

-- so what stands at an earlier place comes before what stands at a later one
pub ascending-places : {l : List (List ℕ)} → Ascending l → (j k : ℕ) → j < k → k < length l → before (get_or l j []) (get_or l k []) ≡ true
ascending-places none j k h below = absurd (not-suc-le-zero below)
ascending-places (more first later) j zero h below = absurd (not-suc-le-zero h)
ascending-places (more first later) zero (suc k) h below = first _ (in-at _ k (le_of_suc-le-suc below))
ascending-places (more first later) (suc j) (suc k) h below = ascending-places later j k (le_of_suc-le-suc h) (le_of_suc-le-suc below)

-- a sift of an ascending list ascends
pub sift-ascending : (test : List ℕ → Bool) {l : List (List ℕ)} → Ascending l → Ascending (sift test l)
unfolding sift
sift-ascending test none = none
sift-ascending test (more {c = c} {l = l} first later) = go (test c) (sift-ascending test later)
  where
    go : (b : Bool) → Ascending (sift test l) → Ascending (cond b (c ∷ sift test l) (sift test l))
    go true kept = more (λ d m. first d ((sift-members test l).0 m).0) kept
    go false kept = kept

-- a join of two ascending lists ascends where each of the first comes before each of the second
join-ascending : {k l : List (List ℕ)} → Ascending k → Ascending l → ((c d : List ℕ) → In c k → In d l → before c d ≡ true) → Ascending (k ++ l)
join-ascending none right across = right
join-ascending {l} (more {c = c} {l = k} first later) right across =
    more (λ d m. ⊎_elim (first d) (λ n. across c d (here refl) n) (Memᴰ.append_cases k m)) (join-ascending later right (λ x d m n. across x d (there m) n))

-- ascending rests ascend after the same entry
under-ascending : (q : ℕ) {l : List (List ℕ)} → Ascending l → Ascending (map (λ rest. q ∷ rest) l)
under-ascending q none = none
under-ascending q (more {c = c} {l = l} first later) =
    more (λ d m. let r = Memᴰ.of_map (λ rest. q ∷ rest) l m in ap (before (q ∷ c)) (sym r.2) ∙ before_same q c r.0 ∙ first r.0 r.1) (under-ascending q later)

-- and after each entry of a row
rows-ascending : (from n : ℕ) {rests : List (List ℕ)} → Ascending rests → Ascending (spread (in_row from n) rests)
unfolding spread in_row
rows-ascending from zero rests = none
rows-ascending from (suc n) {rests = l} rests = join-ascending (under-ascending from rests) (rows-ascending (suc from) n rests) across
  where
    across : (c d : List ℕ) → In c (map (λ rest. from ∷ rest) l) → In d (spread (in_row (suc from) n) l) → before c d ≡ true
    across c d m k =
        let r = Memᴰ.of_map (λ rest. from ∷ rest) l m in
        let s = spread-member (in_row (suc from) n) l k in
        let high : from < s.0 = (row-member s.0 (suc from) n s.2).0 in
        ap (λ (x : List ℕ). before x d) (sym r.2) ∙ ap (before (from ∷ r.0)) (sym s.4) ∙ before-smaller from s.0 r.0 s.1 high

-- the choices ascend
pub choices-ascending : (ps : List ℕ) → Ascending (choices_of ps)
unfolding choices_of entries_for in_row
choices-ascending [] = more (λ d m. absurd (not-nil m)) none
choices-ascending (zero ∷ ps) = rows-ascending 0 1 (choices-ascending ps)
choices-ascending (suc p ∷ ps) = rows-ascending 1 (suc p) (choices-ascending ps)
