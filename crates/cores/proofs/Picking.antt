-- The places that a test picks: how many they are, that they rise, that none is left out; for every test and count. Assumes nothing.
use Prim.Native.Nat.{ℕ, zero, suc, ◌+◌, ◌≤◌, ◌<◌}
use mathlib.Core.Path.{◌≡◌, refl, sym, ap, ap₂, ◌∙◌}
use mathlib.Core.Bool.{Bool, true, false, cond, true≢false}
use mathlib.Core.List.{List, [], ◌∷◌, ◌++◌}
use mathlib.Core.Logic.{◌⊎◌, ⊎_elim}
use native.Mathlib.Nat.{not-suc-le-zero, eq-or-lt_of_le, le_of_suc-le-suc}
use native.Mathlib.Numerals.{add-one}
use native.Mathlib.Omega.{arith}
use lib.ListN.{length, get_or, set, length-append, get_or-append}
use lib.Seq.{get_or_at, get_or-set_same, get_or-set_other}
use mir.Val.{bool_byte}
use Rattle.places.specs.Places.{sum_below}
use Rattle.cores.specs.Renumbered.{picked, how_many}

-- 1 for a test that holds
abbrev pub one_if : Bool → ℕ
one_if b = cond b 1 0

-- as the code counts it
pub byte_one : (a b : Bool) → a ≡ b → bool_byte a ≡ one_if b
byte_one true b e = rw (sym e) refl
byte_one false b e = rw (sym e) refl

pub byte_small : (b : Bool) → bool_byte b ≤ 1
byte_small true = omega arith
byte_small false = omega arith

-- no place, and one more
pub many-none : (test : ℕ → Bool) → how_many test 0 ≡ 0
unfolding how_many sum_below
many-none test = refl

pub many_more : (test : ℕ → Bool) (n : ℕ) → how_many test (n + 1) ≡ how_many test n + one_if (test n)
unfolding how_many sum_below
many_more test n = rw add-one refl

-- at most one for each place
pub many-few : (test : ℕ → Bool) (n : ℕ) → how_many test n ≤ n
unfolding how_many sum_below
many-few test zero = omega arith
many-few test (suc n) = go (test n) (many-few test n)
  where
    go : (b : Bool) → sum_below (λ k. one_if (test k)) n ≤ n → sum_below (λ k. one_if (test k)) n + one_if b ≤ suc n
    go true h = omega arith
    go false h = omega arith

-- a test that holds wherever another does holds at no fewer places
pub many-rises : (f g : ℕ → Bool) (n : ℕ) → ((k : ℕ) → k < n → f k ≡ true → g k ≡ true) → how_many f n ≤ how_many g n
unfolding how_many sum_below
many-rises f g zero each = omega arith
many-rises f g (suc n) each = go (f n) (g n) (each n (omega arith)) (many-rises f g n (λ k h. each k (omega arith)))
  where
    go : (a b : Bool) → (a ≡ true → b ≡ true) → sum_below (λ k. one_if (f k)) n ≤ sum_below (λ k. one_if (g k)) n
        → sum_below (λ k. one_if (f k)) n + one_if a ≤ sum_below (λ k. one_if (g k)) n + one_if b
    go true b e h = rw (e refl) (omega arith)
    go false b e h = omega arith

-- and at more, where it holds at a place at which the other does not
pub many-more-than : (f g : ℕ → Bool) (n : ℕ) → ((k : ℕ) → k < n → f k ≡ true → g k ≡ true) → (k : ℕ) → k < n → f k ≡ false → g k ≡ true → how_many f n < how_many g n
unfolding how_many sum_below
many-more-than f g zero each k low off on = absurd (not-suc-le-zero low)
many-more-than f g (suc n) each k low off on =
    ⊎_elim (λ e. here (many-rises f g n (λ j h. each j (omega arith))) (ap f (sym e) ∙ off) (ap g (sym e) ∙ on))
    (λ lt. go (f n) (g n) (each n (omega arith)) (many-more-than f g n (λ j h. each j (omega arith)) k lt off on)) (eq-or-lt_of_le (le_of_suc-le-suc low))
  where
    here : how_many f n ≤ how_many g n → f n ≡ false → g n ≡ true → sum_below (λ k. one_if (f k)) n + one_if (f n) < sum_below (λ k. one_if (g k)) n + one_if (g n)
    here h a b = rw a (rw b (omega (arith, h)))

    go : (a b : Bool) → (a ≡ true → b ≡ true) → sum_below (λ k. one_if (f k)) n < sum_below (λ k. one_if (g k)) n
        → sum_below (λ k. one_if (f k)) n + one_if a < sum_below (λ k. one_if (g k)) n + one_if b
    go true b e h = rw (e refl) (omega arith)
    go false b e h = omega arith

-- tests that agree below n hold at as many places
pub many-agree : (f g : ℕ → Bool) (n : ℕ) → ((k : ℕ) → k < n → f k ≡ g k) → how_many f n ≡ how_many g n
unfolding how_many sum_below
many-agree f g zero same = refl
many-agree f g (suc n) same = ap₂ (λ (a : ℕ) (b : Bool). a + one_if b) (many-agree f g n (λ k h. same k (omega arith))) (same n (omega arith))

-- and pick the same places
pub picked-agree : (f g : ℕ → Bool) (n : ℕ) → ((k : ℕ) → k < n → f k ≡ g k) → picked f n ≡ picked g n
unfolding picked
picked-agree f g zero same = refl
picked-agree f g (suc n) same =
    ap₂ (λ (l : List ℕ) (b : Bool). cond b (l ++ n ∷ []) l) (picked-agree f g n (λ k h. same k (omega arith))) (same n (omega arith))

-- a place that the test does not hold at changes nothing
module _ (test : ℕ → Bool) (n : ℕ) (off : test n ≡ false) where
  pub picked-skip : picked test (suc n) ≡ picked test n
  unfolding picked
  picked-skip = simp off

  pub many-skip : how_many test (suc n) ≡ how_many test n
  unfolding how_many sum_below
  many-skip = simp off (omega arith)

-- what is known of the places that a test picks below n
pub record Picks (test : ℕ → Bool) (n : ℕ) (places : List ℕ) : Type 0 where
  pub many : length places ≡ how_many test n
  pub holds : (j : ℕ) → j < length places → (get_or places j 0 < n) × (test (get_or places j 0) ≡ true)
  pub rises : (i j : ℕ) → i < j → j < length places → get_or places i 0 < get_or places j 0
  pub found : (k : ℕ) → k < n → test k ≡ true → (j : ℕ) × (j < length places) × (get_or places j 0 ≡ k)

module _ (test : ℕ → Bool) where
  -- a place that is not picked
  pub picks-skip : (n : ℕ) (places : List ℕ) → test n ≡ false → Picks test n places → Picks test (suc n) places
  picks-skip n places off known =
      record {
        many = known.many ∙ sym (many-skip test n off);
        holds = λ j h. (omega (arith, (known.holds j h).0), (known.holds j h).1);
        rises = known.rises;
        found = λ k low on. ⊎_elim (λ e. absurd (true≢false (sym on ∙ ap test e ∙ off))) (λ lt. known.found k lt on) (eq-or-lt_of_le (le_of_suc-le-suc low));
      }

  -- and one that is
  pub picks-next : (n : ℕ) (places : List ℕ) → test n ≡ true → Picks test n places → Picks test (suc n) (places ++ n ∷ [])
  unfolding how_many sum_below
  picks-next n places on known =
      record {
        many = size ∙ rw on (omega (arith, known.many));
        holds = λ j h. ⊎_elim (λ e. rw (last j e) (omega arith, on)) (λ lt. rw (first j lt) (omega (arith, (known.holds j lt).0), (known.holds j lt).1)) (split j h);
        rises = λ i j lt h. ⊎_elim (λ e. rw (last j e) (rw (first i (omega arith)) (known.holds i (omega arith)).0)) (λ low. rw (first j low) (rw (first i (omega arith)) (known.rises i j lt low))) (split j h);
        found = λ k low is. ⊎_elim (λ e. (length places, omega (arith, size), last (length places) refl ∙ sym e)) (λ lt. further k (known.found k lt is)) (eq-or-lt_of_le (le_of_suc-le-suc low));
      }
    where
      size : length (places ++ n ∷ []) ≡ length places + 1
      size = length-append places (n ∷ [])

      split : (j : ℕ) → j < length (places ++ n ∷ []) → (j ≡ length places) ⊎ (j < length places)
      split j h = eq-or-lt_of_le (omega (arith, size))

      last : (j : ℕ) → j ≡ length places → get_or (places ++ n ∷ []) j 0 ≡ n
      last j e = get_or_at places n [] 0 j (sym e)

      first : (j : ℕ) → j < length places → get_or (places ++ n ∷ []) j 0 ≡ get_or places j 0
      first j lt = get_or-append places (n ∷ []) 0 j lt

      further : (k : ℕ) → (j : ℕ) × (j < length places) × (get_or places j 0 ≡ k) → (j : ℕ) × (j < length (places ++ n ∷ [])) × (get_or (places ++ n ∷ []) j 0 ≡ k)
      further k s = (s.0, omega (arith, size, s.1), first s.0 s.1 ∙ s.2)

  pub picks : (n : ℕ) → Picks test n (picked test n)
  unfolding picked how_many sum_below
  picks zero = record { many = refl; holds = λ j h. absurd (not-suc-le-zero h); rises = λ i j lt h. absurd (not-suc-le-zero h); found = λ k h on. absurd (not-suc-le-zero h) }
  picks (suc n) = go (test n) refl (picks n)
    where
      go : (b : Bool) → test n ≡ b → Picks test n (picked test n) → Picks test (suc n) (cond b (picked test n ++ n ∷ []) (picked test n))
      go true on known = picks-next n (picked test n) on known
      go false off known = picks-skip n (picked test n) off known

-- the values of the places picked below n, at the start of a list
pub record Gathered {A : Type 0} (value : ℕ → A) (d : A) (test : ℕ → Bool) (l : List A) (count n : ℕ) : Type 0 where
  pub many : count ≡ length (picked test n)
  pub each : (j : ℕ) → j < count → get_or l j d ≡ value (get_or (picked test n) j 0)

module _ {A : Type 0} (value : ℕ → A) (d : A) (test : ℕ → Bool) where
  pub gather_none : (l : List A) → Gathered value d test l 0 0
  unfolding picked
  gather_none l = record { many = refl; each = λ j h. absurd (not-suc-le-zero h) }

  -- the next place's value is stored in any case, and counts if the place is picked
  pub gather-next : (l : List A) (count n : ℕ) → count < length l → Gathered value d test l count n → Gathered value d test (set l count (value n)) (count + one_if (test n)) (n + 1)
  unfolding picked
  gather-next l count n room before = rw add-one (go (test n) refl)
    where
      stays : (j : ℕ) → j < count → get_or (set l count (value n)) j d ≡ value (get_or (picked test n) j 0)
      stays j low = get_or-set_other l count j (value n) d (λ e. omega arith) ∙ before.each j low

      go : (b : Bool) → test n ≡ b → Gathered value d test (set l count (value n)) (count + one_if b) (suc n)
      go true on =
          let here : picked test (suc n) ≡ picked test n ++ n ∷ [] = simp on in
          record {
            many = sym (ap length here ∙ length-append (picked test n) (n ∷ []) ∙ ap (λ (k : ℕ). k + 1) (sym before.many));
            each = λ j h.
                rw here
                (⊎_elim (λ e. rw e (get_or-set_same l count (value n) d room ∙ ap value (sym (get_or_at (picked test n) n [] 0 count (sym before.many)))))
                (λ lt. stays j lt ∙ ap value (sym (get_or-append (picked test n) (n ∷ []) 0 j (omega (arith, before.many))))) (eq-or-lt_of_le (omega arith)));
          }
      go false off =
          let here : picked test (suc n) ≡ picked test n = picked-skip test n off in
          record { many = omega (arith, before.many, ap length here); each = λ j h. rw here (stays j (omega arith)) }

-- a test that holds everywhere picks every place
pub picked_all : (test : ℕ → Bool) (n : ℕ) → ((k : ℕ) → k < n → test k ≡ true) → (length (picked test n) ≡ n) × ((k : ℕ) → k < n → get_or (picked test n) k 0 ≡ k)
unfolding picked
picked_all test zero on = (refl, λ k h. absurd (not-suc-le-zero h))
picked_all test (suc n) on =
    let before = picked_all test n (λ k h. on k (omega arith)) in
    rw (on n (omega arith)) (
      omega (arith, length-append (picked test n) (n ∷ []), before.0),
      λ k h. ⊎_elim (λ e. get_or_at (picked test n) n [] 0 k (before.0 ∙ sym e) ∙ sym e) (λ lt. get_or-append (picked test n) (n ∷ []) 0 k (omega (arith, before.0)) ∙ before.1 k lt) (eq-or-lt_of_le (le_of_suc-le-suc h)),
    )
