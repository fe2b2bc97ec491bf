-- What a sift keeps: it commutes with another sift, and goes through a join and a map. Assumes nothing.
use Prim.Native.Nat.{ℕ, suc, ◌≤◌, suc-le-suc}
use mathlib.Core.Path.{◌≡◌, refl, sym, ap, ap₂, ◌∙◌}
use mathlib.Core.Bool.{Bool, true, false, cond}
use mathlib.Core.List.Memᴰ.{head as here}
use mathlib.Core.List.Memᴰ.{tail as there}
use mathlib.Core.List.{List, [], ◌∷◌, ◌++◌, map, Memᴰ as In}
use native.Mathlib.Omega.{arith}
use lib.ListN.{length}
use Rattle.choices.specs.Choices.{sift}
use Rattle.choices.specs.Order.{before, after_of}

module _ {A : Type 0} where
  -- a member that passes is kept
  pub sift-keeps : (test : A → Bool) (a : A) (l : List A) → test a ≡ true → sift test (a ∷ l) ≡ a ∷ sift test l
  unfolding sift
  sift-keeps test a l e = rw e

  -- one that does not is dropped
  pub sift-drops : (test : A → Bool) (a : A) (l : List A) → test a ≡ false → sift test (a ∷ l) ≡ sift test l
  unfolding sift
  sift-drops test a l e = rw e

  -- no more are kept than there are
  pub sift-fewer : (test : A → Bool) (l : List A) → length (sift test l) ≤ length l
  unfolding sift
  sift-fewer test [] = omega arith
  sift-fewer test (a ∷ l) = go (test a) (sift-fewer test l)
    where
      go : (b : Bool) → length (sift test l) ≤ length l → length (cond b (a ∷ sift test l) (sift test l)) ≤ suc (length l)
      go true fewer = suc-le-suc fewer
      go false fewer = omega arith

  -- a test that every member passes keeps the list
  pub sift-all : (test : A → Bool) (l : List A) → ((a : A) → In a l → test a ≡ true) → sift test l ≡ l
  unfolding sift
  sift-all test [] all = refl
  sift-all test (a ∷ l) all = rw (all a (here refl)) (ap (λ (r : List A). a ∷ r) (sift-all test l (λ b m. all b (there m))))

  -- a test that no member passes empties it
  pub sift-none : (test : A → Bool) (l : List A) → ((a : A) → In a l → test a ≡ false) → sift test l ≡ []
  unfolding sift
  sift-none test [] none = refl
  sift-none test (a ∷ l) none = rw (none a (here refl)) (sift-none test l (λ b m. none b (there m)))

  -- two tests that agree on every member keep the same
  pub sift-same : (test other : A → Bool) (l : List A) → ((a : A) → In a l → test a ≡ other a) → sift test l ≡ sift other l
  unfolding sift
  sift-same test other [] same = refl
  sift-same test other (a ∷ l) same = ap₂ (λ (b : Bool) (r : List A). cond b (a ∷ r) r) (same a (here refl)) (sift-same test other l (λ b m. same b (there m)))

  -- a join is sifted part by part
  pub sift-join : (test : A → Bool) (k l : List A) → sift test (k ++ l) ≡ sift test k ++ sift test l
  unfolding sift
  sift-join test [] l = refl
  sift-join test (a ∷ k) l = go (test a) (sift-join test k l)
    where
      go : (b : Bool) → sift test (k ++ l) ≡ sift test k ++ sift test l → cond b (a ∷ sift test (k ++ l)) (sift test (k ++ l)) ≡ cond b (a ∷ sift test k) (sift test k) ++ sift test l
      go true later = ap (λ (r : List A). a ∷ r) later
      go false later = later

  -- two sifts commute
  sifts-commute : (f g : A → Bool) (l : List A) → sift f (sift g l) ≡ sift g (sift f l)
  unfolding sift
  sifts-commute f g [] = refl
  sifts-commute f g (a ∷ l) = go (f a) refl (g a) refl (sifts-commute f g l)
    where
      go : (x : Bool) → f a ≡ x → (y : Bool) → g a ≡ y → sift f (sift g l) ≡ sift g (sift f l) → sift f (cond y (a ∷ sift g l) (sift g l)) ≡ sift g (cond x (a ∷ sift f l) (sift f l))
      go true e true d later = sift-keeps f a (sift g l) e ∙ ap (λ (r : List A). a ∷ r) later ∙ sym (sift-keeps g a (sift f l) d)
      go true e false d later = later ∙ sym (sift-drops g a (sift f l) d)
      go false e true d later = sift-drops f a (sift g l) e ∙ later
      go false e false d later = later

-- a map is sifted by the test after it
pub sift-map : {A B : Type 0} (test : B → Bool) (f : A → B) (l : List A) → sift test (map f l) ≡ map f (sift (λ a. test (f a)) l)
unfolding sift
sift-map test f [] = refl
sift-map {B} test f (a ∷ l) = go (test (f a)) (sift-map test f l)
  where
    go : (b : Bool) → sift test (map f l) ≡ map f (sift (λ a. test (f a)) l) → cond b (f a ∷ sift test (map f l)) (sift test (map f l)) ≡ map f (cond b (a ∷ sift (λ a. test (f a)) l) (sift (λ a. test (f a)) l))
    go true later = ap (λ (r : List B). f a ∷ r) later
    go false later = later

-- those after a choice that pass a test are those that pass it after the choice
pub sift-sift-commute : (c : List ℕ) (test : List ℕ → Bool) (l : List (List ℕ)) → after_of c (sift test l) ≡ sift test (after_of c l)
unfolding after_of
sift-sift-commute c test l = sifts-commute (before c) test l
