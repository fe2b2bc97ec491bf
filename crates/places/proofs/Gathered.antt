-- What is gathered place by place, by a sum, a largest or an "or": it does not depend on the order of the places, and places that bring nothing may be left out. Assumes nothing.
use Prim.Native.Nat.{ℕ, zero, suc, ◌+◌, ◌≤◌, ◌<◌, max}
use mathlib.Core.Path.{◌≡◌, refl, sym, ap, ap₂, ◌∙◌}
use mathlib.Core.Bool.{Bool, false, cond, ◌||◌, or_comm, or_assoc, or-false}
use native.Mathlib.Decide.{ℕ_discrete, dec_lt}
use native.Mathlib.Omega.{arith}
use borrow.Author.Tests.{lt-ltb, le-ltb}
use lib.Dec.{ltb}
use Rattle.places.specs.Places.{some_below, sum_below, most_below}
use Rattle.places.proofs.Onto.{Numbering, closed, closed-above, closed-below, numbered-before}

-- an operation in which neither order nor brackets matter, with a value that brings nothing, and what it gathers
record Gathering (A : Type 0) : Type 0 where
  op : A → A → A
  unit : A
  swap : (a b : A) → op a b ≡ op b a
  group : (a b c : A) → op (op a b) c ≡ op a (op b c)
  nothing : (a : A) → op a unit ≡ a
  all : (ℕ → A) → ℕ → A
  none : (f g : ℕ → A) → all f 0 ≡ all g 0
  more : (f : ℕ → A) (n : ℕ) → all f (suc n) ≡ op (all f n) (f n)

module _ {A : Type 0} (G : Gathering A) where
  -- values that agree below n
  gathered-agree : (f g : ℕ → A) (n : ℕ) → ((k : ℕ) → k < n → f k ≡ g k) → G.all f n ≡ G.all g n
  gathered-agree f g zero same = G.none f g
  gathered-agree f g (suc n) same = G.more f n ∙ ap₂ G.op (gathered-agree f g n (λ k h. same k (omega arith))) (same n (omega arith)) ∙ sym (G.more g n)

  -- from a place on nothing is brought
  gathered-until : (f g : ℕ → A) (m n : ℕ) → m ≤ n → ((k : ℕ) → k < m → f k ≡ g k) → ((k : ℕ) → m ≤ k → k < n → f k ≡ G.unit) → G.all f n ≡ G.all g m
  gathered-until f g m zero low same rest = gathered-agree f g zero (λ k h. absurd (omega arith)) ∙ ap (G.all g) (omega arith)
  gathered-until f g m (suc n) low same rest = go (ℕ_discrete m (suc n)) (gathered-until f g m n)
    where
      go : Dec (m ≡ suc n) → (m ≤ n → ((k : ℕ) → k < m → f k ≡ g k) → ((k : ℕ) → m ≤ k → k < n → f k ≡ G.unit) → G.all f n ≡ G.all g m) → G.all f (suc n) ≡ G.all g m
      go (yes e) before = gathered-agree f g (suc n) (λ k h. same k (omega arith)) ∙ ap (G.all g) (sym e)
      go (no e) before = G.more f n ∙ ap₂ G.op (before (omega arith) same (λ k a b. rest k a (omega arith))) (rest n (omega arith) (omega arith)) ∙ G.nothing (G.all g m)

  -- the values but the one at a gap
  abbrev opened : (ℕ → A) → ℕ → ℕ → A
  opened f gap k = cond (ltb k gap) (f k) (f (suc k))

  opened-closed : (f : ℕ → A) (gap x : ℕ) → (x ≡ gap → ⊥) → opened f gap (closed gap x) ≡ f x
  opened-closed f gap x other = go (dec_lt gap x)
    where
      go : Dec (gap < x) → opened f gap (closed gap x) ≡ f x
      go (yes h) =
          let next : suc (closed gap x) ≡ x = omega (arith, closed-above gap x h) in
          rw (le-ltb (closed gap x) gap (omega arith)) (ap f next)
      go (no h) =
          let same = closed-below gap x (omega arith) in
          rw (lt-ltb (closed gap x) gap (omega arith)) (ap f same)

  -- they and the one at the gap are all
  taken_out : (f : ℕ → A) (n gap : ℕ) → gap ≤ n → G.op (G.all (opened f gap) n) (f gap) ≡ G.all f (suc n)
  taken_out f zero gap low =
      let here : gap ≡ 0 = omega arith in
      ap₂ G.op (G.none (opened f gap) f) (ap f here) ∙ sym (G.more f zero)
  taken_out f (suc n) gap low = go (ℕ_discrete gap (suc n)) (taken_out f n gap)
    where
      go : Dec (gap ≡ suc n) → (gap ≤ n → G.op (G.all (opened f gap) n) (f gap) ≡ G.all f (suc n)) → G.op (G.all (opened f gap) (suc n)) (f gap) ≡ G.all f (suc (suc n))
      go (yes e) before = ap₂ G.op (gathered-agree (opened f gap) f (suc n) (λ k h. rw (lt-ltb k gap (omega arith)) refl)) (ap f e) ∙ sym (G.more f (suc n))
      go (no e) before =
          let last : opened f gap n ≡ f (suc n) = rw (le-ltb n gap (omega arith)) refl in
          ap (λ (x : A). G.op x (f gap)) (G.more (opened f gap) n ∙ ap (G.op (G.all (opened f gap) n)) last)
          ∙ G.group _ (f (suc n)) (f gap)
          ∙ ap (G.op (G.all (opened f gap) n)) (G.swap (f (suc n)) (f gap))
          ∙ sym (G.group _ (f gap) (f (suc n)))
          ∙ ap (λ (x : A). G.op x (f (suc n))) (before (omega arith))
          ∙ sym (G.more f (suc n))

  -- the places by any numbering of them
  gathered-reordered : (n : ℕ) (number : ℕ → ℕ) → Numbering n number → (f : ℕ → A) → G.all (λ k. f (number k)) n ≡ G.all f n
  gathered-reordered zero number numbered f = G.none (λ k. f (number k)) f
  gathered-reordered (suc n) number numbered f =
      let gap = number n in
      let other : (k : ℕ) → k < n → number k ≡ gap → ⊥ = λ k h e. let same = numbered.apart k n (omega arith) (omega arith) e in omega arith in
      G.more (λ k. f (number k)) n
      ∙ ap (λ (x : A). G.op x (f gap))
      (gathered-agree (λ k. f (number k)) (λ k. opened f gap (closed gap (number k))) n (λ k h. sym (opened-closed f gap (number k) (other k h)))
      ∙ gathered-reordered n (λ k. closed gap (number k)) (numbered-before n number numbered) (opened f gap))
      ∙ taken_out f n gap (omega (arith, numbered.within n (omega arith)))

-- sums, the largest, and whether there is some
unfoldable sums : Gathering ℕ
unfolding sum_below
sums = record { op = ◌+◌; unit = 0; swap = λ a b. omega arith; group = λ a b c. omega arith; nothing = λ a. omega arith; all = sum_below; none = λ f g. refl; more = λ f n. refl }

unfoldable largests : Gathering ℕ
unfolding most_below
largests = record { op = max; unit = 0; swap = λ a b. omega arith; group = λ a b c. omega arith; nothing = λ a. omega arith; all = most_below; none = λ f g. refl; more = λ f n. refl }

unfoldable tests : Gathering Bool
unfolding some_below
tests = record { op = ◌||◌; unit = false; swap = or_comm; group = or_assoc; nothing = or-false; all = some_below; none = λ f g. refl; more = λ f n. refl }

pub sum-reordered : (n : ℕ) (number : ℕ → ℕ) → Numbering n number → (f : ℕ → ℕ) → sum_below (λ k. f (number k)) n ≡ sum_below f n
unfolding sums
sum-reordered = gathered-reordered sums

pub most-reordered : (n : ℕ) (number : ℕ → ℕ) → Numbering n number → (f : ℕ → ℕ) → most_below (λ k. f (number k)) n ≡ most_below f n
unfolding largests
most-reordered = gathered-reordered largests

pub some-reordered : (n : ℕ) (number : ℕ → ℕ) → Numbering n number → (f : ℕ → Bool) → some_below (λ k. f (number k)) n ≡ some_below f n
unfolding tests
some-reordered = gathered-reordered tests

pub sum-until : (f g : ℕ → ℕ) (m n : ℕ) → m ≤ n → ((k : ℕ) → k < m → f k ≡ g k) → ((k : ℕ) → m ≤ k → k < n → f k ≡ 0) → sum_below f n ≡ sum_below g m
unfolding sums
sum-until = gathered-until sums

pub most-until : (f g : ℕ → ℕ) (m n : ℕ) → m ≤ n → ((k : ℕ) → k < m → f k ≡ g k) → ((k : ℕ) → m ≤ k → k < n → f k ≡ 0) → most_below f n ≡ most_below g m
unfolding largests
most-until = gathered-until largests
