-- Stepping by the next choice walks the list of choices: what comes after a choice is the next one and what comes after that.
-- Assumes nothing.
use Prim.Native.Nat.{ℕ, zero, suc, ◌+◌, ◌-◌, ◌≤◌, ◌<◌}
use mathlib.Core.Path.{◌≡◌, refl, sym, ap, ap₂, ◌∙◌, fun_ext}
use mathlib.Core.Bool.{Bool, true, false, cond, ◌||◌, or-true, false≢true}
use mathlib.Core.List.{List, [], ◌∷◌, ◌++◌, map}
use mathlib.Core.Logic.{◌⊎◌, inl, inr}
use native.Mathlib.Nat.{eq-or-lt_of_le, le_refl}
use native.Mathlib.Omega.{arith}
use borrow.Author.Tests.{lt-ltb, le-ltb, ltb-true, ltb-false, eq-eqb, ne_eqb, eqb-true}
use lib.Dec.{eqb, ltb}
use lib.ListN.{length, get_or}
use Rattle.places.proofs.Tells.{true-both, both_true}
use Rattle.analysis.specs.Common.Allowed.{is_allowed, all_allowed}
use Rattle.analysis.proofs.Laws.Common.Choice.{allowed-length}
use Rattle.choices.specs.Choices.{in_row, entries_for, spread, choices_of, sift}
use Rattle.choices.specs.Order.{before, all_zero, after_of}
use Rattle.choices.specs.Stepping.{first_for, Carried, carried, next_of}
use Rattle.choices.proofs.Sifted.{sift-all, sift-none, sift-join, sift-map, sift-sift-commute}
use Rattle.choices.proofs.Allowed.{allowed-within, within-allowed, first-fault, entries-first, first-allowed}

-- each of the rests after an entry
abbrev under : ℕ → List (List ℕ) → List (List ℕ)
under q rests = map (λ rest. q ∷ rest) rests

module _ (rests : List (List ℕ)) (q : ℕ) (c : List ℕ) where
  -- of a row of a smaller entry nothing comes after
  row_below : (e : ℕ) → e < q → after_of (q ∷ c) (under e rests) ≡ []
  unfolding after_of before
  row_below e h =
      sift-map (before (q ∷ c)) (λ rest. e ∷ rest) rests
      ∙ ap (under e) (sift-none (λ rest. before (q ∷ c) (e ∷ rest)) rests (λ rest m. simp (le-ltb q e (omega arith), ne_eqb q e (λ z. omega arith))))

  -- of the entry's own row those whose rest comes after
  row_at : after_of (q ∷ c) (under q rests) ≡ under q (after_of c rests)
  unfolding after_of before
  row_at =
      sift-map (before (q ∷ c)) (λ rest. q ∷ rest) rests
      ∙ ap (λ (test : List ℕ → Bool). under q (sift test rests)) (fun_ext (λ rest. simp (le-ltb q q (le_refl q), eq-eqb q q refl)))

  -- of a row of a larger entry all
  row-above : (e : ℕ) → q < e → after_of (q ∷ c) (under e rests) ≡ under e rests
  unfolding after_of before
  row-above e h =
      sift-map (before (q ∷ c)) (λ rest. e ∷ rest) rests
      ∙ ap (under e) (sift-all (λ rest. before (q ∷ c) (e ∷ rest)) rests (λ rest m. simp (lt-ltb q e h)))

  -- rows of larger entries all come after
  rows_above : (from n : ℕ) → q < from → after_of (q ∷ c) (spread (in_row from n) rests) ≡ spread (in_row from n) rests
  unfolding after_of spread in_row sift
  rows_above from zero h = refl
  rows_above from (suc n) h = sift-join (before (q ∷ c)) (under from rests) (spread (in_row (suc from) n) rests) ∙ ap₂ ◌++◌ (row-above from h) (rows_above (suc from) n (omega arith))

  -- of rows that hold the entry, what comes after is the rest of its own row and the rows above
  rows-after : (from n : ℕ) → from ≤ q → q < from + n → after_of (q ∷ c) (spread (in_row from n) rests) ≡ under q (after_of c rests) ++ spread (in_row (suc q) (from + n - suc q)) rests
  unfolding after_of spread in_row
  rows-after from zero low high = absurd (omega arith)
  rows-after from (suc n) low high = go (rows-after (suc from) n) (eq-or-lt_of_le low)
    where
      go : (suc from ≤ q → q < suc from + n → after_of (q ∷ c) (spread (in_row (suc from) n) rests) ≡ under q (after_of c rests) ++ spread (in_row (suc q) (suc from + n - suc q)) rests)
          → (from ≡ q) ⊎ (from < q) → after_of (q ∷ c) (spread (in_row from (suc n)) rests) ≡ under q (after_of c rests) ++ spread (in_row (suc q) (from + suc n - suc q)) rests
      go later (inl e) =
          let left : n ≡ from + suc n - suc q = omega arith in
          ap (λ (k : ℕ). after_of (q ∷ c) (spread (in_row k (suc n)) rests)) e ∙ sift-join (before (q ∷ c)) (under q rests) (spread (in_row (suc q) n) rests)
          ∙ ap₂ ◌++◌ row_at (rows_above (suc q) n (le_refl (suc q)) ∙ ap (λ (k : ℕ). spread (in_row (suc q) k) rests) left)
      go later (inr lt) =
          let left : suc from + n - suc q ≡ from + suc n - suc q = omega arith in
          let fits : q < suc from + n = omega arith in
          sift-join (before (q ∷ c)) (under from rests) (spread (in_row (suc from) n) rests)
          ∙ ap₂ ◌++◌ (row_below from lt) (later lt fits ∙ ap (λ (k : ℕ). under q (after_of c rests) ++ spread (in_row (suc q) k) rests) left)

-- what comes after an allowed entry and its rest
after-entry : (p q : ℕ) (c : List ℕ) (rests : List (List ℕ)) → is_allowed p q ≡ true → after_of (q ∷ c) (spread (entries_for p) rests) ≡ under q (after_of c rests) ++ spread (in_row (suc q) (p - q)) rests
unfolding in_row
after-entry p q c rests allowed =
    let range : (first_for p ≤ q) × (q ≤ p) = allowed-within p q allowed in
    let left : first_for p + suc (p - first_for p) - suc q ≡ p - q = omega arith in
    ap (λ (row : List ℕ). after_of (q ∷ c) (spread row rests)) (entries-first p)
    ∙ rows-after rests q c (first_for p) (suc (p - first_for p)) range.0 (omega arith)
    ∙ ap (λ (n : ℕ). under q (after_of c rests) ++ spread (in_row (suc q) n) rests) left

-- the rows from an allowed entry on are that entry with the first of the rests, and what comes after
entry_first : (p q : ℕ) (first : List ℕ) (rests : List (List ℕ)) → is_allowed p q ≡ true → rests ≡ first ∷ after_of first rests
    → under q rests ++ spread (in_row (suc q) (p - q)) rests ≡ (q ∷ first) ∷ after_of (q ∷ first) (spread (entries_for p) rests)
entry_first p q first rests allowed heads =
    ap (λ (r : List (List ℕ)). under q r ++ spread (in_row (suc q) (p - q)) rests) heads ∙ ap (λ (r : List (List ℕ)). (q ∷ first) ∷ r) (sym (after-entry p q first rests allowed))

-- the first entries head the choices, and every other choice comes after them
pub choices-first : (ps : List ℕ) → choices_of ps ≡ map first_for ps ∷ after_of (map first_for ps) (choices_of ps)
unfolding choices_of after_of before sift spread
choices-first [] = refl
choices-first (p ∷ ps) =
    ap (λ (row : List ℕ). spread row (choices_of ps)) (entries-first p)
    ∙ entry_first p (first_for p) (map first_for ps) (choices_of ps) (first-fault p) (choices-first ps)

-- what a carry says of the choices after c: it rose to the next one, or it is all first entries again and none is left
data Carries (ps c : List ℕ) : Carried → Type 0 where
  rises : {next : List ℕ} → all_allowed ps next ≡ true → after_of c (choices_of ps) ≡ next ∷ after_of next (choices_of ps) → Carries ps c (record { rose = true; entries = next })
  ends : after_of c (choices_of ps) ≡ [] → Carries ps c (record { rose = false; entries = map first_for ps })

-- a carry through one more place, whose entry is allowed
carry-entry : (p q : ℕ) (ps qs : List ℕ) → is_allowed p q ≡ true → {r : Carried} → Carries ps qs r
    → Carries (p ∷ ps) (q ∷ qs)
    (cond r.rose (record { rose = true; entries = q ∷ r.entries }) (record { rose = ltb q p; entries = cond (ltb q p) (suc q) (first_for p) ∷ r.entries }))
unfolding choices_of all_allowed in_row spread
carry-entry p q ps qs allowed (rises {next = next} good e) =
    rises (true-both _ _ allowed good)
    (after-entry p q qs (choices_of ps) allowed
    ∙ ap (λ (r : List (List ℕ)). under q r ++ spread (in_row (suc q) (p - q)) (choices_of ps)) e
    ∙ ap (λ (r : List (List ℕ)). (q ∷ next) ∷ r) (sym (after-entry p q next (choices_of ps) allowed)))
carry-entry p q ps qs allowed (ends e) = go (ltb q p) refl
  where
    above : after_of (q ∷ qs) (choices_of (p ∷ ps)) ≡ spread (in_row (suc q) (p - q)) (choices_of ps)
    above = after-entry p q qs (choices_of ps) allowed ∙ ap (λ (r : List (List ℕ)). under q r ++ spread (in_row (suc q) (p - q)) (choices_of ps)) e

    go : (b : Bool) → ltb q p ≡ b → Carries (p ∷ ps) (q ∷ qs) (record { rose = b; entries = cond b (suc q) (first_for p) ∷ map first_for ps })
    go true h =
        let range : (first_for p ≤ q) × (q ≤ p) = allowed-within p q allowed in
        let lt : q < p = ltb-true q p h in
        let raised : is_allowed p (suc q) ≡ true = within-allowed p (suc q) (omega arith) lt in
        let left : p - q ≡ suc (p - suc q) = omega arith in
        rises (true-both _ _ raised (first-allowed ps))
        (above ∙ ap (λ (n : ℕ). spread (in_row (suc q) n) (choices_of ps)) left ∙ entry_first p (suc q) (map first_for ps) (choices_of ps) raised (choices-first ps))
    go false h =
        let left : p - q ≡ 0 = omega (arith, ltb-false q p h) in
        ends (above ∙ ap (λ (n : ℕ). spread (in_row (suc q) n) (choices_of ps)) left)

-- the carry says so of every allowed choice
carries : (ps c : List ℕ) → all_allowed ps c ≡ true → Carries ps c (carried ps c)
unfolding carried all_allowed choices_of after_of before sift
carries [] [] e = ends refl
carries [] (q ∷ qs) e = absurd (false≢true e)
carries (p ∷ ps) [] e = absurd (false≢true e)
carries (p ∷ ps) (q ∷ qs) e =
    let both = both_true (is_allowed p q) (all_allowed ps qs) e in
    carry-entry p q ps qs both.0 (carries ps qs both.1)

-- the start, or an allowed choice
abbrev pub starts_in : List ℕ → List ℕ → Bool
starts_in ps c = all_zero c || all_allowed ps c

-- the next after either is allowed
pub next-allowed : (ps c : List ℕ) → starts_in ps c ≡ true → all_allowed ps (next_of ps c).entries ≡ true
unfolding next_of
next-allowed ps c = go (all_zero c)
  where
    kept : {r : Carried} → Carries ps c r → all_allowed ps r.entries ≡ true
    kept (rises good e) = good
    kept (ends e) = first-allowed ps

    go : (zeros : Bool) → (zeros || all_allowed ps c) ≡ true → all_allowed ps (cond {A = Carried} zeros (record { rose = true; entries = map first_for ps }) (carried ps c)).entries ≡ true
    go true start = first-allowed ps
    go false start = kept (carries ps c start)

-- so that one can go on from it
pub still-starts : (ps c : List ℕ) → starts_in ps c ≡ true → starts_in ps (next_of ps c).entries ≡ true
still-starts ps c start = rw (next-allowed ps c start) (or-true (all_zero (next_of ps c).entries))

-- and has an entry for each record
pub next-length : (ps c : List ℕ) → starts_in ps c ≡ true → length (next_of ps c).entries ≡ length ps
next-length ps c start = allowed-length ps (next_of ps c).entries (next-allowed ps c start)

-- the start comes before every choice of a table whose first record is there
pub zero-before-all : (ps c : List ℕ) → 1 ≤ get_or ps 0 0 → all_zero c ≡ true → length c ≡ length ps → after_of c (choices_of ps) ≡ choices_of ps
unfolding all_zero choices_of entries_for
zero-before-all [] c some zeros same = absurd (omega arith)
zero-before-all (zero ∷ ps) c some zeros same = absurd (omega arith)
zero-before-all (suc p ∷ ps) [] some zeros same = absurd (omega arith)
zero-before-all (suc p ∷ ps) (q ∷ qs) some zeros same =
    let none : q ≡ 0 = eqb-true q 0 (both_true (eqb q 0) (all_zero qs) zeros).0 in
    rows_above (choices_of ps) q qs 1 (suc p) (omega arith)

-- and so before every choice that passes a test
pub zero-before-sift : (ps c : List ℕ) (test : List ℕ → Bool) → 1 ≤ get_or ps 0 0 → all_zero c ≡ true → length c ≡ length ps → after_of c (sift test (choices_of ps)) ≡ sift test (choices_of ps)
zero-before-sift ps c test some zeros same = sift-sift-commute c test (choices_of ps) ∙ ap (sift test) (zero-before-all ps c some zeros same)

-- a choice that the carry rose to and those after it, or none
abbrev pub onward : List ℕ → Carried → List (List ℕ)
onward ps r = cond r.rose (r.entries ∷ after_of r.entries (choices_of ps)) []

-- what comes after the start, or after an allowed choice, is the next one and what comes after that
pub after_next : (ps c : List ℕ) → 1 ≤ get_or ps 0 0 → length c ≡ length ps → starts_in ps c ≡ true → after_of c (choices_of ps) ≡ onward ps (next_of ps c)
unfolding next_of
after_next ps c some same = go (all_zero c) refl
  where
    stepped : {r : Carried} → Carries ps c r → after_of c (choices_of ps) ≡ onward ps r
    stepped (rises good e) = e
    stepped (ends e) = e

    go : (zeros : Bool) → all_zero c ≡ zeros → (zeros || all_allowed ps c) ≡ true → after_of c (choices_of ps) ≡ onward ps (cond zeros (record { rose = true; entries = map first_for ps }) (carried ps c))
    go true zeros start = zero-before-all ps c some zeros same ∙ choices-first ps
    go false zeros start = stepped (carries ps c start)
