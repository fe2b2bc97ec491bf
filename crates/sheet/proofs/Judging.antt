-- Records judged one after the other with marks for the priorities met: what is known before each record, over any records.
-- Assumes nothing.
use Prim.Native.Nat.{ℕ, zero, suc, ◌+◌, ◌≤◌, ◌<◌}
use mathlib.Core.Path.{◌≡◌, refl, sym, ap, ◌∙◌}
use mathlib.Core.Bool.{Bool, true, false}
use mathlib.Core.List.{List}
use mathlib.Core.Logic.{◌⊎◌, ⊎_elim}
use native.Mathlib.Nat.{not-suc-le-zero, eq-or-lt_of_le, le_of_suc-le-suc}
use native.Mathlib.Decide.{ℕ_discrete, dec_lt}
use native.Mathlib.Omega.{arith}
use borrow.Author.Tests.{lt-ltb, eq-eqb, ne_eqb}
use lib.ListN.{length, get_or, set, replicate, length-set}
use Rattle.places.specs.Refusals.{or_else, first_below}
use Rattle.places.proofs.Refusals.{next-of, first_of, none_of, first_more, first_found, first-all}
use Rattle.sheet.specs.declared.Record.{Record}
use Rattle.sheet.specs.Rules.{outside, refusal_of, record_refusal, records_refusal, broken_below}
use Rattle.sheet.proofs.Marked.{Marks, marks-none, marks-more}
use Rattle.sheet.proofs.Cases.{good-record}

-- what is known before the record at the place: the marks, and that no record before it is refused
pub record Judging (n : ℕ) (at : ℕ → Record) (marks : List Bool) (place : ℕ) : Type 0 where
  pub reached : place ≤ n
  pub room : length marks ≡ 16
  pub marked : Marks marks at place
  pub good : first_below (record_refusal n at) place ≡ 0

-- a priority outside 1 to n is refused whether it is taken or not
taken-either : (n : ℕ) (a b : Bool) (r : Record) → outside r.priority n ≡ true → refusal_of n a r ≡ refusal_of n b r
unfolding refusal_of
taken-either n a b r e = simp e

above-outside : (n x : ℕ) → n < x → outside x n ≡ true
unfolding outside
above-outside n x h = simp (ne_eqb x 0 (λ e. omega arith), lt-ltb n x h)

-- the first place that is refused
module _ (refusal : ℕ → ℕ) where
  pub broken-none : (n : ℕ) → first_below refusal n ≡ 0 → broken_below refusal n ≡ 0
  unfolding broken_below first_below
  broken-none zero good = refl
  broken-none (suc n) good =
      let both = none_of (first_below refusal n) (refusal n) good in
      simp (eq-eqb (first_below refusal n) 0 both.0, eq-eqb (refusal n) 0 both.1)

  -- is the one after places that are not
  pub broken-here : (n : ℕ) → first_below refusal n ≡ 0 → (refusal n ≡ 0 → ⊥) → broken_below refusal (suc n) ≡ n
  unfolding broken_below
  broken-here n before broken = simp (eq-eqb (first_below refusal n) 0 before, ne_eqb (refusal n) 0 broken)

  -- and stays the first
  pub broken-before : (n : ℕ) → (first_below refusal n ≡ 0 → ⊥) → broken_below refusal (suc n) ≡ broken_below refusal n
  unfolding broken_below
  broken-before n some = simp (ne_eqb (first_below refusal n) 0 some)

  pub broken-found : (k n : ℕ) → first_below refusal k ≡ 0 → k < n → (refusal k ≡ 0 → ⊥) → broken_below refusal n ≡ k
  broken-found k zero before below broken = absurd (not-suc-le-zero below)
  broken-found k (suc n) before below broken = go (broken-found k n before) (eq-or-lt_of_le (le_of_suc-le-suc below))
    where
      go : (k < n → (refusal k ≡ 0 → ⊥) → broken_below refusal n ≡ k) → (k ≡ n) ⊎ (k < n) → broken_below refusal (suc n) ≡ k
      go earlier w =
          ⊎_elim (λ e. ap (λ (j : ℕ). broken_below refusal (suc j)) (sym e) ∙ broken-here k before broken)
          (λ lt. broken-before n (λ z. broken (sym (first_found refusal k n before lt broken) ∙ z)) ∙ earlier lt broken) w

  -- where some place below n is refused, it is one, its refusal is the first, and no place before it is refused
  pub broken-at : (n : ℕ) → (first_below refusal n ≡ 0 → ⊥)
      → (broken_below refusal n < n) × (refusal (broken_below refusal n) ≡ first_below refusal n) × ((k : ℕ) → k < broken_below refusal n → refusal k ≡ 0)
  unfolding first_below
  broken-at zero some = absurd (some refl)
  broken-at (suc n) some = go (broken-at n) (ℕ_discrete (first_below refusal n) 0)
    where
      go : ((first_below refusal n ≡ 0 → ⊥) → (broken_below refusal n < n) × (refusal (broken_below refusal n) ≡ first_below refusal n) × ((k : ℕ) → k < broken_below refusal n → refusal k ≡ 0)) → Dec (first_below refusal n ≡ 0)
          → (broken_below refusal (suc n) < suc n) × (refusal (broken_below refusal (suc n)) ≡ or_else (first_below refusal n) (refusal n)) × ((k : ℕ) → k < broken_below refusal (suc n) → refusal k ≡ 0)
      go earlier (yes z) =
          let here = broken-here n z (λ e. some (next-of (refusal n) z ∙ e)) in
          (omega (arith, here), ap refusal here ∙ sym (next-of (refusal n) z), λ k below. first-all refusal n z k (omega (arith, here)))
      go earlier (no broken) =
          let found = earlier broken in
          let same = broken-before n broken in
          (omega (arith, same, found.0), ap refusal same ∙ found.1 ∙ sym (first_of (first_below refusal n) (refusal n) broken), λ k below. found.2 k (omega (arith, same)))

module _ (n : ℕ) (at : ℕ → Record) (few : n ≤ 8) where
  pub judging-start : Judging n at (replicate 16 false) 0
  unfolding first_below
  judging-start = record { reached = omega arith; room = refl; marked = marks-none at; good = refl }

  module _ (marks : List Bool) (place : ℕ) (j : Judging n at marks place) where
    -- the refusal that the marks give is the record's own
    refusal-marked : refusal_of n (get_or marks (at place).priority false) (at place) ≡ record_refusal n at place
    unfolding record_refusal Marks
    refusal-marked = go (dec_lt (at place).priority 16)
      where
        go : Dec ((at place).priority < 16) → refusal_of n (get_or marks (at place).priority false) (at place) ≡ record_refusal n at place
        go (yes h) = ap (λ (b : Bool). refusal_of n b (at place)) (j.marked (at place).priority h)
        go (no h) = taken-either n _ _ (at place) (above-outside n (at place).priority (omega arith))

    pub judging-done : n ≤ place → 0 ≡ records_refusal n at
    unfolding records_refusal
    judging-done h =
        let all : place ≡ n = omega arith in
        sym (ap (first_below (record_refusal n at)) (sym all) ∙ j.good)

    pub judging-none : n ≤ place → 0 ≡ broken_below (record_refusal n at) n
    judging-none h =
        let all : place ≡ n = omega arith in
        sym (broken-none (record_refusal n at) n (ap (first_below (record_refusal n at)) (sym all) ∙ j.good))

    module _ (below : place < n) where
      pub judging-at : (refusal_of n (get_or marks (at place).priority false) (at place) ≡ 0 → ⊥) → place ≡ broken_below (record_refusal n at) n
      judging-at broken = sym (broken-found (record_refusal n at) place n j.good below (λ e. broken (refusal-marked ∙ e)))

      pub judging-found : (refusal_of n (get_or marks (at place).priority false) (at place) ≡ 0 → ⊥) → refusal_of n (get_or marks (at place).priority false) (at place) ≡ records_refusal n at
      unfolding records_refusal
      judging-found broken =
          refusal-marked ∙ sym (first_found (record_refusal n at) place n j.good below (λ e. broken (refusal-marked ∙ e)))

      module _ (passed : refusal_of n (get_or marks (at place).priority false) (at place) ≡ 0) where
        pub priority-small : (at place).priority < 16
        priority-small = omega (arith, (good-record n _ (at place) passed).priority)

        pub judging-more : Judging n at (set marks (at place).priority true) (place + 1)
        judging-more =
            record {
              reached = omega arith;
              room = length-set marks (at place).priority true ∙ j.room;
              marked = marks-more marks at place j.room j.marked;
              good = first_more (record_refusal n at) place j.good (sym refusal-marked ∙ passed);
            }
