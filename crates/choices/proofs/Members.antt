-- The members of the lists: the choices are exactly the allowed ones, and a sift's members are those that pass. Assumes nothing.
use Prim.Native.Nat.{ℕ, zero, suc, ◌+◌, ◌-◌, ◌≤◌, ◌<◌}
use mathlib.Core.Path.{◌≡◌, refl, sym, ap, ◌∙◌, subst}
use mathlib.Core.Bool.{Bool, true, false, cond, false≢true}
use mathlib.Core.List.Memᴰ
use mathlib.Core.List.Memᴰ.{eq_of_singleton}
use mathlib.Core.List.Memᴰ.{head as here}
use mathlib.Core.List.Memᴰ.{not-nil}
use mathlib.Core.List.Memᴰ.{tail as there}
use mathlib.Core.List.{List, [], ◌∷◌, ◌++◌, map, Memᴰ as In}
use mathlib.Core.Logic.{◌↔◌, ◌⊎◌, inl, inr}
use native.Mathlib.Nat.{eq-or-lt_of_le}
use native.Mathlib.Omega.{arith}
use Rattle.places.proofs.Tells.{true-both, both_true}
use Rattle.analysis.specs.Common.Allowed.{is_allowed, all_allowed}
use Rattle.choices.specs.Choices.{in_row, entries_for, spread, choices_of, sift}
use Rattle.choices.specs.Stepping.{first_for}
use Rattle.choices.proofs.Allowed.{allowed-within, within-allowed, first-fault, entries-first}

module _ {A : Type 0} (test : A → Bool) {a : A} where
  -- a sift's member is the list's and passes
  sift-sound : (l : List A) → In a (sift test l) → In a l × (test a ≡ true)
  unfolding sift
  sift-sound [] m = absurd (not-nil m)
  sift-sound (x ∷ l) m = go (test x) refl (sift-sound l) m
    where
      go : (b : Bool) → test x ≡ b → (In a (sift test l) → In a l × (test a ≡ true)) → In a (cond b (x ∷ sift test l) (sift test l)) → In a (x ∷ l) × (test a ≡ true)
      go true e later (here s) = (here s, ap test s ∙ e)
      go true e later (there n) = (there (later n).0, (later n).1)
      go false e later n = (there (later n).0, (later n).1)

  -- a member that passes is the sift's
  sift-complete : (l : List A) → In a l → test a ≡ true → In a (sift test l)
  unfolding sift
  sift-complete [] m holds = absurd (not-nil m)
  sift-complete (x ∷ l) m holds = go (test x) refl (λ n. sift-complete l n holds) m
    where
      go : (b : Bool) → test x ≡ b → (In a l → In a (sift test l)) → In a (x ∷ l) → In a (cond b (x ∷ sift test l) (sift test l))
      go true e later (here s) = here s
      go true e later (there n) = there (later n)
      go false e later (here s) = absurd (false≢true (sym e ∙ ap test (sym s) ∙ holds))
      go false e later (there n) = later n

  -- a sift's members are the list's that pass
  pub sift-members : (l : List A) → In a (sift test l) ↔ (In a l × (test a ≡ true))
  sift-members l = (sift-sound l, λ h. sift-complete l h.0 h.1)

-- a member of a row of numbers lies within it
pub row-member : (q from n : ℕ) → In q (in_row from n) → (from ≤ q) × (q < from + n)
unfolding in_row
row-member q from zero m = absurd (not-nil m)
row-member q from (suc n) m = go (row-member q (suc from) n) m
  where
    go : (In q (in_row (suc from) n) → (suc from ≤ q) × (q < suc from + n)) → In q (from ∷ in_row (suc from) n) → (from ≤ q) × (q < from + suc n)
    go later (here e) = omega arith
    go later (there k) = omega (arith, later k)

-- a number that lies within a row is a member
member-row : (q from n : ℕ) → from ≤ q → q < from + n → In q (in_row from n)
unfolding in_row
member-row q from zero low high = absurd (omega arith)
member-row q from (suc n) low high = go (member-row q (suc from) n) (eq-or-lt_of_le low)
  where
    go : (suc from ≤ q → q < suc from + n → In q (in_row (suc from) n)) → (from ≡ q) ⊎ (from < q) → In q (from ∷ in_row (suc from) n)
    go later (inl e) = here (sym e)
    go later (inr lt) = there (later lt (omega arith))

-- a member of a spread is one of the entries before one of the rests
pub spread-member : {c : List ℕ} (qs : List ℕ) (rests : List (List ℕ)) → In c (spread qs rests) → (q : ℕ) × (rest : List ℕ) × In q qs × In rest rests × (q ∷ rest ≡ c)
unfolding spread
spread-member [] rests m = absurd (not-nil m)
spread-member {c} (q ∷ qs) rests m = go (spread-member qs rests) (Memᴰ.append_cases (map (λ rest. q ∷ rest) rests) m)
  where
    go : (In c (spread qs rests) → (p : ℕ) × (rest : List ℕ) × In p qs × In rest rests × (p ∷ rest ≡ c)) → In c (map (λ rest. q ∷ rest) rests) ⊎ In c (spread qs rests)
        → (p : ℕ) × (rest : List ℕ) × In p (q ∷ qs) × In rest rests × (p ∷ rest ≡ c)
    go later (inl n) = let r = Memᴰ.of_map (λ rest. q ∷ rest) rests n in (q, r.0, here refl, r.1, r.2)
    go later (inr n) = let r = later n in (r.0, r.1, there r.2, r.3, r.4)

-- an entry before one of the rests is a member of the spread
member-spread : (q : ℕ) (rest : List ℕ) (qs : List ℕ) (rests : List (List ℕ)) → In q qs → In rest rests → In (q ∷ rest) (spread qs rests)
unfolding spread
member-spread q rest [] rests m n = absurd (not-nil m)
member-spread q rest (p ∷ qs) rests m n = go (λ k. member-spread q rest qs rests k n) m
  where
    go : (In q qs → In (q ∷ rest) (spread qs rests)) → In q (p ∷ qs) → In (q ∷ rest) (map (λ rest. p ∷ rest) rests ++ spread qs rests)
    go later (here e) = Memᴰ.append_left (spread qs rests) (Memᴰ.cast (ap (λ (k : ℕ). k ∷ rest) e) (Memᴰ.map (λ rest. p ∷ rest) n))
    go later (there k) = Memᴰ.append_right (map (λ rest. p ∷ rest) rests) (later k)

-- a member of the entries for a place is allowed there
entry-allowed : (p q : ℕ) → In q (entries_for p) → is_allowed p q ≡ true
unfolding in_row
entry-allowed p q m =
    let range : (first_for p ≤ q) × (q < first_for p + suc (p - first_for p)) = row-member q (first_for p) (suc (p - first_for p)) (subst (In q) (entries-first p) m) in
    let some : first_for p ≤ p = (allowed-within p (first_for p) (first-fault p)).1 in
    within-allowed p q range.0 (omega arith)

-- an entry allowed there is a member
allowed-entry : (p q : ℕ) → is_allowed p q ≡ true → In q (entries_for p)
unfolding in_row
allowed-entry p q allowed =
    let range : (first_for p ≤ q) × (q ≤ p) = allowed-within p q allowed in
    subst (In q) (sym (entries-first p)) (member-row q (first_for p) (suc (p - first_for p)) range.0 (omega arith))

-- each member of the choices is allowed
pub choices-sound : (ps : List ℕ) {c : List ℕ} → In c (choices_of ps) → all_allowed ps c ≡ true
unfolding choices_of all_allowed
choices-sound [] m = ap (all_allowed []) (eq_of_singleton m)
choices-sound (p ∷ ps) m =
    let r = spread-member (entries_for p) (choices_of ps) m in
    ap (all_allowed (p ∷ ps)) (sym r.4) ∙ true-both _ _ (entry-allowed p r.0 r.2) (choices-sound ps r.3)

-- each allowed choice is a member
pub choices-complete : (ps c : List ℕ) → all_allowed ps c ≡ true → In c (choices_of ps)
unfolding choices_of all_allowed
choices-complete [] [] e = here refl
choices-complete [] (q ∷ qs) e = absurd (false≢true e)
choices-complete (p ∷ ps) [] e = absurd (false≢true e)
choices-complete (p ∷ ps) (q ∷ qs) e =
    let both = both_true (is_allowed p q) (all_allowed ps qs) e in
    member-spread q qs (entries_for p) (choices_of ps) (allowed-entry p q both.0) (choices-complete ps qs both.1)
