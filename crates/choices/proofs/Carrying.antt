-- The carry as a loop does it from the last place to the first: what stands in the entries before each turn. Assumes nothing.
use Prim.Native.Nat.{ℕ, suc, ◌+◌, ◌≤◌, ◌<◌}
use mathlib.Core.Path.{◌≡◌, sym, ap, ap₂, ◌∙◌}
use mathlib.Core.Bool.{Bool, true, false, cond}
use mathlib.Core.List.{List, [], ◌∷◌, ◌++◌, map, append-nil}
use native.Mathlib.Numerals.{add-one}
use native.Mathlib.Omega.{arith}
use borrow.Author.Tests.{lt-ltb, le-ltb}
use lib.Dec.{ltb}
use lib.ListN.{length, get_or, set, take, drop, drop_of_length-le}
use lib.Seq.{take_all, take-suc, get_or_at, set_at, append_snoc, length-take-le}
use Rattle.choices.specs.Order.{all_zero}
use Rattle.choices.specs.Stepping.{first_for, Carried, carried, next_of}
use Rattle.choices.proofs.Whole.{carried-at, carried-front}

-- before the places below n are looked at: none rose from n on, and what the carry made of those places stands after the choice's own entries
pub record Carrying (priorities choice entries : List ℕ) (n : ℕ) : Type 0 where
  pub reached : n ≤ 8
  pub still : (carried (drop n priorities) (drop n choice)).rose ≡ false
  pub content : entries ≡ take n choice ++ (carried (drop n priorities) (drop n choice)).entries

module _ (priorities choice : List ℕ) (eight : length priorities ≡ 8) (eight' : length choice ≡ 8) where
  -- past the last place there is nothing to carry
  empty : carried (drop 8 priorities) (drop 8 choice) ≡ record { rose = false; entries = [] }
  unfolding carried
  empty = ap₂ carried (drop_of_length-le priorities {i = 8} (omega arith)) (drop_of_length-le choice {i = 8} (omega arith))

  pub carrying-start : Carrying priorities choice choice 8
  carrying-start =
      record {
        reached = omega arith;
        still = ap (λ (r : Carried). r.rose) empty;
        content = sym (ap₂ ◌++◌ (take_all 8 choice (omega arith)) (ap (λ (r : Carried). r.entries) empty) ∙ append-nil choice);
      }

  module _ (entries : List ℕ) (k : ℕ) (at : Carrying priorities choice entries (k + 1)) where
    below : k < length priorities
    below = omega (arith, at.reached)

    below' : k < length choice
    below' = omega (arith, at.reached)

    -- what the carry made of the places after k
    abbrev later : List ℕ
    later = (carried (drop (k + 1) priorities) (drop (k + 1) choice)).entries

    split : take (k + 1) choice ++ later ≡ take k choice ++ get_or choice k 0 ∷ later
    split = rw add-one (ap (λ (l : List ℕ). l ++ later) (take-suc choice k 0 below') ∙ append_snoc (take k choice) (get_or choice k 0) later)

    stored : (q : ℕ) → set entries k q ≡ take k choice ++ q ∷ later
    stored q = ap (λ (l : List ℕ). set l k q) (at.content ∙ split) ∙ set_at (take k choice) (get_or choice k 0) later q k (length-take-le k choice (omega (arith, below')))

    -- the entry at k is still the choice's own
    pub entry_kept : get_or entries k 0 ≡ get_or choice k 0
    entry_kept = ap (λ (l : List ℕ). get_or l k 0) (at.content ∙ split) ∙ get_or_at (take k choice) (get_or choice k 0) later 0 k (length-take-le k choice (omega (arith, below')))

    -- what the carry makes of the places from k on
    from-here : carried (drop k priorities) (drop k choice) ≡ record { rose = ltb (get_or choice k 0) (get_or priorities k 0); entries = cond (ltb (get_or choice k 0) (get_or priorities k 0)) (suc (get_or choice k 0)) (first_for (get_or priorities k 0)) ∷ later }
    from-here = carried-at priorities choice k below below' at.still

    -- an entry that cannot rise goes back to its first
    pub carrying-more : get_or priorities k 0 ≤ get_or choice k 0 → Carrying priorities choice (set entries k (first_for (get_or priorities k 0))) k
    carrying-more full =
        let same = from-here ∙ ap (λ (b : Bool). record { rose = b; entries = cond b (suc (get_or choice k 0)) (first_for (get_or priorities k 0)) ∷ later }) (le-ltb (get_or choice k 0) (get_or priorities k 0) full) in
        record {
          reached = omega (arith, at.reached);
          still = ap (λ (r : Carried). r.rose) same;
          content = stored (first_for (get_or priorities k 0)) ∙ ap (λ (r : Carried). take k choice ++ r.entries) (sym same);
        }

    -- an entry that can rise does, and the carry ends there
    pub carrying-found : get_or choice k 0 < get_or priorities k 0 → carried priorities choice ≡ record { rose = true; entries = set entries k (suc (get_or choice k 0)) }
    carrying-found free =
        let same = from-here ∙ ap (λ (b : Bool). record { rose = b; entries = cond b (suc (get_or choice k 0)) (first_for (get_or priorities k 0)) ∷ later }) (lt-ltb (get_or choice k 0) (get_or priorities k 0) free) in
        carried-front k priorities choice (omega (arith, below)) (omega (arith, below')) (ap (λ (r : Carried). r.rose) same)
        ∙ ap (λ (l : List ℕ). record { rose = true; entries = l }) (ap (λ (r : Carried). take k choice ++ r.entries) same ∙ sym (stored (suc (get_or choice k 0))))

-- after a choice that is not all zero, the next is what the carry makes
pub next-carried : (ps c : List ℕ) → all_zero c ≡ false → next_of ps c ≡ carried ps c
unfolding next_of
next-carried ps c some = simp some

-- after eight zeros it is the first entries
pub next-first : (ps c : List ℕ) → all_zero c ≡ true → next_of ps c ≡ record { rose = true; entries = map first_for ps }
unfolding next_of
next-first ps c zeros = simp zeros
