-- Going through the list of the choices for which a test holds one by one: what comes after each, and that each can be gone on from. Assumes nothing.
use Prim.Native.Nat.{ℕ, ◌*◌, ◌≤◌, ◌<◌}
use mathlib.Core.Path.{◌≡◌, refl, sym, ap, ap₂, ◌∙◌, subst}
use mathlib.Core.Bool.{Bool, true, false, cond, ◌||◌, or-true}
use mathlib.Core.List.Memᴰ.{head as here}
use mathlib.Core.List.{List, [], ◌∷◌, Memᴰ as In}
use native.Mathlib.Omega.{arith}
use borrow.Author.Tests.{lt-ltb, le-ltb}
use lib.ListN.{length, get_or, replicate}
use Rattle.places.proofs.Refusals.{first_of, next-of}
use Rattle.sheet.specs.declared.Table.{Table}
use Rattle.sheet.specs.Rules.{table_refusal}
use Rattle.analysis.specs.Common.Tasks.{Tasks}
use Rattle.analysis.specs.Common.Columns.{priorities_of}
use Rattle.analysis.specs.Common.Allowed.{all_allowed}
use Rattle.analysis.proofs.Laws.Common.Choice.{fault-allowed, allowed-length}
use Rattle.choices.specs.Choices.{choices_of, sift, chosen}
use Rattle.choices.specs.Order.{before, all_zero, after_of}
use Rattle.choices.specs.Answers.{bytes_of, room_refusal, list_from, leaves_from}
use Rattle.choices.specs.Stepping.{IsSmall, Levels}
use Rattle.choices.proofs.Sifted.{sift-drops, sift-all}
use Rattle.choices.proofs.Allowed.{allowed-within}
use Rattle.choices.proofs.Onward.{starts_in, zero-before-sift}
use Rattle.choices.proofs.Members.{sift-members, choices-sound}
use Rattle.choices.proofs.Ordered.{before-irreflexive, before-asymmetric, before-transitive, Ascending, none, more, sift-ascending, choices-ascending}
use Rattle.choices.proofs.Advancing.{test_with, table-levels}

-- in an ascending list, what comes after the first one found after a start is what was found after it
pub after_first : (w c : List ℕ) (rest : List (List ℕ)) {l : List (List ℕ)} → Ascending l → after_of w l ≡ c ∷ rest → after_of c l ≡ rest
unfolding after_of sift
after_first w c rest none e = absurd (omega (arith, ap length e))
after_first w c rest (more {c = d} {l = l} later up) e = go (before w d) refl (after_first w c rest up) e
  where
    go : (b : Bool) → before w d ≡ b → (sift (before w) l ≡ c ∷ rest → sift (before c) l ≡ rest) → cond b (d ∷ sift (before w) l) (sift (before w) l) ≡ c ∷ rest → sift (before c) (d ∷ l) ≡ rest
    go true h earlier e =
        let head : d ≡ c = cc in
        let tail : sift (before w) l ≡ rest = cc in
        ap (λ (x : List ℕ). sift (before x) (d ∷ l)) (sym head) ∙ sift-drops (before d) d l (before-irreflexive d) ∙ sift-all (before d) l later
        ∙ sym (sift-all (before w) l (λ x m. before-transitive w d x h (later x m))) ∙ tail
    go false h earlier e =
        let member : In c l = ((sift-members (before w) l).0 (subst (In c) (sym e) (here refl))).0 in
        sift-drops (before c) d l (before-asymmetric d c (later c member)) ∙ earlier e

-- no entry of an allowed choice is above its priority
entry-within : (ps c : List ℕ) → all_allowed ps c ≡ true → (k : ℕ) → get_or c k 0 ≤ get_or ps k 0
entry-within ps c e k = (allowed-within (get_or ps k 0) (get_or c k 0) (fault-allowed ps c e k)).1

-- eight zeros can be gone on from
pub start-allowed : (ps : List ℕ) → starts_in ps (replicate 8 0) ≡ true
unfolding all_zero
start-allowed ps = refl

module _ (ps : List ℕ) (list : List (List ℕ)) where
  -- the first choice of a list after another: it can be gone on from, its eight entries have room in four bits, and the rest comes after it
  pub record Next (c : List ℕ) (rest : List (List ℕ)) : Type 0 where
    pub eight : length c ≡ 8
    pub going_on : starts_in ps c ≡ true
    pub after : after_of c list ≡ rest
    pub narrow : IsSmall c

module _ (ps : List ℕ) (test : List ℕ → Bool) where
  -- the choices of some priorities for which a test holds
  abbrev listed : List (List ℕ)
  listed = sift test (choices_of ps)

  -- each is allowed
  listed-allowed : {c : List ℕ} → In c listed → all_allowed ps c ≡ true
  listed-allowed m = choices-sound ps ((sift-members test (choices_of ps)).0 m).0

  module _ (levels : Levels ps) where
    -- such a choice has eight entries, each with room in four bits
    pub listed_small : {c : List ℕ} → In c listed → (length c ≡ 8) × IsSmall c
    unfolding IsSmall
    listed_small {c} member =
        let allowed = listed-allowed member in
        (allowed-length ps c allowed ∙ levels.eight, λ k. omega (arith, entry-within ps c allowed k, levels.few k))

    -- before the first choice stands every one
    pub from_zero : after_of (replicate 8 0) listed ≡ listed
    unfolding all_zero
    from_zero = zero-before-sift ps (replicate 8 0) test levels.first refl (sym levels.eight)

    pub next-sifted : (w c : List ℕ) (rest : List (List ℕ)) → after_of w listed ≡ c ∷ rest → Next ps listed c rest
    unfolding after_of
    next-sifted w c rest e =
        let member : In c listed = ((sift-members (before w) listed).0 (subst (In c) (sym e) (here refl))).0 in
        record {
          eight = (listed_small member).0;
          going_on = ap (λ (b : Bool). all_zero c || b) (listed-allowed member) ∙ or-true (all_zero c);
          after = after_first w c rest (sift-ascending test (choices-ascending ps)) e;
          narrow = (listed_small member).1;
        }

-- The same of the choices of a table
pub passing-ascending : (test : Tasks → Bool) (t : Table) → Ascending (chosen test t)
unfolding chosen
passing-ascending test t = sift-ascending (test_with test t) (choices-ascending (priorities_of t))

module _ (test : Tasks → Bool) (t : Table) (good : table_refusal t ≡ 0) where
  -- a choice for which the test holds has eight entries, each with room in four bits
  pub passing-eight : {c : List ℕ} → In c (chosen test t) → (length c ≡ 8) × IsSmall c
  unfolding chosen
  passing-eight member = listed_small (priorities_of t) (test_with test t) (table-levels t good) member

  pub from_start : after_of (replicate 8 0) (chosen test t) ≡ chosen test t
  unfolding chosen
  from_start = from_zero (priorities_of t) (test_with test t) (table-levels t good)

  pub next-listed : (w c : List ℕ) (rest : List (List ℕ)) → after_of w (chosen test t) ≡ c ∷ rest → Next (priorities_of t) (chosen test t) c rest
  unfolding chosen
  next-listed = next-sifted (priorities_of t) (test_with test t) (table-levels t good)

-- the refusals of a list, after one that comes first
module _ (refusal : ℕ) (list : List (List ℕ)) (out : List ℕ) where
  pub room-refused : (refusal ≡ 0 → ⊥) → room_refusal refusal list out ≡ refusal
  unfolding room_refusal
  room-refused = first_of refusal _

  module _ (good : refusal ≡ 0) where
    pub room-short : length out < 4 * length list → room_refusal refusal list out ≡ 11
    unfolding room_refusal
    room-short h = next-of {a = refusal} _ good ∙ simp (lt-ltb (length out) (4 * length list) h)

    pub room_fits : 4 * length list ≤ length out → room_refusal refusal list out ≡ 0
    unfolding room_refusal
    room_fits h = next-of {a = refusal} _ good ∙ simp (le-ltb (length out) (4 * length list) h)

    -- an empty list fits every output, and leaves it as it was
    pub room-empty : list ≡ [] → (list_from (room_refusal refusal list out) list ≡ record { refusal = 0; entries = 0 }) × (leaves_from (room_refusal refusal list out) list out ≡ out)
    unfolding list_from leaves_from bytes_of
    room-empty empty =
        let fits = room_fits (rw empty (omega arith)) in
        (ap₂ list_from fits empty, ap₂ (λ (r : ℕ) (l : List (List ℕ)). leaves_from r l out) fits empty)
