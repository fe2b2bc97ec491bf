-- A choice place by place: the priorities of a table's records, which fault priorities are allowed, and what an allowed choice is in document 01's words. Assumes nothing.
use Prim.Native.Nat.{ℕ, zero, suc, ◌+◌, ◌≤◌, ◌<◌}
use mathlib.Core.Path.{◌≡◌, refl, sym, ap, ap₂, ◌∙◌, subst}
use mathlib.Core.Bool.{Bool, true, false, not, cond, ◌&&◌, false≢true}
use mathlib.Core.List.{List, [], ◌∷◌}
use mathlib.Core.Logic.{◌↔◌}
use native.Mathlib.Nat.{not-suc-le-zero, suc-ne-zero, suc_inj}
use native.Mathlib.Numerals.{add-one}
use native.Mathlib.Decide.{ℕ_discrete, dec_lt}
use native.Mathlib.Omega.{arith}
use borrow.Author.Tests.{lt-ltb, le-ltb, le-leb, lt-leb, eq-eqb, ne_eqb, eqb-true, not-true}
use lib.Dec.{ltb, leb, eqb, eqb-suc-zero}
use lib.ListN.{length, get_or, drop, replicate}
use lib.Seq.{drop-cons}
use Rattle.places.specs.Places.{filled_below}
use Rattle.places.specs.Refusals.{or_else}
use Rattle.places.proofs.Tells.{true-both, both_true}
use Rattle.places.proofs.Filled.{length-filled, filled_at, filled-past, alike_at}
use Rattle.sheet.specs.declared.Table.{Table}
use Rattle.sheet.specs.Layout.{record_at}
use Rattle.sheet.specs.Rules.{outside, table_refusal}
use Rattle.sheet.proofs.Cases.{within, outside-within, good-table, good-at}
use Rattle.analysis.specs.Common.Tasks.{fault_at, own_choice}
use Rattle.analysis.specs.Common.Columns.{priorities_of}
use Rattle.analysis.specs.Common.Allowed.{is_allowed, all_allowed, Within}
use Rattle.analysis.specs.Published.Answers.{choice_refusal}

-- what is not above is at most
pub not-above : (a b : ℕ) → not (ltb b a) ≡ leb a b
not-above a b = go (dec_lt b a)
  where
    go : Dec (b < a) → not (ltb b a) ≡ leb a b
    go (yes h) = simp (lt-ltb b a h, lt-leb a b h)
    go (no h) = simp (le-ltb b a (omega arith), le-leb a b (omega arith))

-- the rest of a list from a place on is the element there and the rest after it
pub rest_at : (l : List ℕ) (k : ℕ) → k < length l → drop k l ≡ get_or l k 0 ∷ drop (k + 1) l
rest_at l k h = rw add-one (drop-cons l k 0 h)

-- the fault priorities from a place on are allowed if the one there is, and those after it
pub allowed_at : (ps qs : List ℕ) (k : ℕ) → k < length ps → k < length qs
    → all_allowed (drop k ps) (drop k qs) ≡ (is_allowed (get_or ps k 0) (get_or qs k 0) && all_allowed (drop (k + 1) ps) (drop (k + 1) qs))
unfolding all_allowed
allowed_at ps qs k hp hq = ap₂ all_allowed (rest_at ps k hp) (rest_at qs k hq)

-- each fault priority of an allowed choice is allowed at its place
pub fault-allowed : (ps c : List ℕ) → all_allowed ps c ≡ true → (k : ℕ) → is_allowed (get_or ps k 0) (get_or c k 0) ≡ true
unfolding all_allowed is_allowed
fault-allowed [] [] e k = refl
fault-allowed [] (q ∷ qs) e k = absurd (false≢true e)
fault-allowed (p ∷ ps) [] e k = absurd (false≢true e)
fault-allowed (p ∷ ps) (q ∷ qs) e zero = (both_true (is_allowed p q) (all_allowed ps qs) e).0
fault-allowed (p ∷ ps) (q ∷ qs) e (suc k) = fault-allowed ps qs (both_true (is_allowed p q) (all_allowed ps qs) e).1 k

-- and a choice with a fault priority for each record, each allowed at its place, is allowed
faults-allowed : (ps c : List ℕ) → length c ≡ length ps → ((k : ℕ) → is_allowed (get_or ps k 0) (get_or c k 0) ≡ true) → all_allowed ps c ≡ true
unfolding all_allowed
faults-allowed [] [] same each = refl
faults-allowed [] (q ∷ qs) same each = absurd (suc-ne-zero (length qs) same)
faults-allowed (p ∷ ps) [] same each = absurd (suc-ne-zero (length ps) (sym same))
faults-allowed (p ∷ ps) (q ∷ qs) same each = true-both _ _ (each 0) (faults-allowed ps qs (suc_inj same) (λ k. each (suc k)))

-- an allowed choice has a fault priority for each record
pub allowed-length : (ps c : List ℕ) → all_allowed ps c ≡ true → length c ≡ length ps
unfolding all_allowed
allowed-length [] [] e = refl
allowed-length [] (q ∷ qs) e = absurd (false≢true e)
allowed-length (p ∷ ps) [] e = absurd (false≢true e)
allowed-length (p ∷ ps) (q ∷ qs) e = ap suc (allowed-length ps qs (both_true (is_allowed p q) (all_allowed ps qs) e).1)

-- a fault priority allowed for a record lies within 1 to its priority
pub allowed-for : (p q : ℕ) → 1 ≤ p → (is_allowed p q ≡ true) ↔ ((1 ≤ q) × (q ≤ p))
unfolding is_allowed
allowed-for zero q some = absurd (not-suc-le-zero some)
allowed-for (suc p) q some = (
  λ e. within q (suc p) (not-true (outside q (suc p)) (rw (eqb-suc-zero p) at e)),
  λ h. rw (eqb-suc-zero p, outside-within q (suc p) h),
)

-- and past the count only 0 is
pub allowed-past : (q : ℕ) → (is_allowed 0 q ≡ true) ↔ (q ≡ 0)
unfolding is_allowed
allowed-past q = (eqb-true q 0, eq-eqb q 0)

-- the priorities of a table
module _ (t : Table) where
  -- there are eight
  pub length-priorities : length (priorities_of t) ≡ 8
  unfolding priorities_of
  length-priorities = length-filled _ t.count (replicate 8 0)

  -- below the count they are the priorities
  pub priority-at : t.count ≤ 8 → (place : ℕ) → place < t.count → get_or (priorities_of t) place 0 ≡ (record_at t.records place).priority
  unfolding priorities_of
  priority-at few place below = filled_at (λ k. (record_at t.records k).priority) t.count (replicate 8 0) 0 few place below

  -- and past it 0
  pub priority-past : (place : ℕ) → t.count ≤ place → get_or (priorities_of t) place 0 ≡ 0
  unfolding priorities_of
  priority-past place past = filled-past (λ k. (record_at t.records k).priority) t.count (replicate 8 0) 0 place past ∙ alike_at 0 8 place

-- a choice of a table: no "entry outside 1 to that record's p", and no "nonzero entry past the count"
pub record Allowed (t : Table) (choice : List ℕ) : Type 0 where
  pub each : Within t choice
  pub past : (place : ℕ) → t.count ≤ place → get_or choice place 0 ≡ 0

-- the definition's test says just that
pub allowed-exactly : (t : Table) → table_refusal t ≡ 0 → (choice : List ℕ) → length choice ≡ 8 → (all_allowed (priorities_of t) choice ≡ true) ↔ Allowed t choice
allowed-exactly t good choice eight = (
  λ e. record {
    each = λ place below. (allowed-for _ _ (some place below)).0 (subst (λ (p : ℕ). is_allowed p (get_or choice place 0) ≡ true) (priority place below) (fault-allowed (priorities_of t) choice e place));
    past = λ place over. (allowed-past _).0 (subst (λ (p : ℕ). is_allowed p (get_or choice place 0) ≡ true) (priority-past t place over) (fault-allowed (priorities_of t) choice e place));
  },
  λ w. faults-allowed (priorities_of t) choice (eight ∙ sym (length-priorities t)) (λ place. at place w (dec_lt place t.count)),
)
  where
    priority : (place : ℕ) → place < t.count → get_or (priorities_of t) place 0 ≡ (record_at t.records place).priority
    priority = priority-at t (good-table t good).count.1

    some : (place : ℕ) → place < t.count → 1 ≤ (record_at t.records place).priority
    some place below = (good-at t.count (record_at t.records) (good-table t good).records place below).priority.0

    at : (place : ℕ) → Allowed t choice → Dec (place < t.count) → is_allowed (get_or (priorities_of t) place 0) (get_or choice place 0) ≡ true
    at place w (yes below) = subst (λ (p : ℕ). is_allowed p (get_or choice place 0) ≡ true) (sym (priority place below)) ((allowed-for _ _ (some place below)).1 (w.each place below))
    at place w (no over) = subst (λ (p : ℕ). is_allowed p (get_or choice place 0) ≡ true) (sym (priority-past t place (omega arith))) ((allowed-past _).1 (w.past place (omega arith)))

-- a choice that does not get 13
pub allowed-kept : (t : Table) → table_refusal t ≡ 0 → (choice : List ℕ) → length choice ≡ 8 → ◌≡◌ {A = ℕ} (cond (all_allowed (priorities_of t) choice) 0 13) 0 → Within t choice
allowed-kept t good choice eight e = ((allowed-exactly t good choice eight).0 (kept (all_allowed (priorities_of t) choice) e)).each
  where
    kept : (b : Bool) → ◌≡◌ {A = ℕ} (cond b 0 13) 0 → b ≡ true
    kept true z = refl
    kept false z = absurd (suc-ne-zero 12 z)

-- the table's own fault priorities
module _ (t : Table) where
  -- each stands at its place
  pub own_at : (place : ℕ) → place < t.count → t.count ≤ 8 → get_or (own_choice t) place 0 ≡ (record_at t.records place).fault_priority
  unfolding own_choice fault_at
  own_at place below few = filled_at (fault_at t) 8 (replicate 8 0) 0 (omega arith) place (omega arith) ∙ simp (lt-ltb place t.count below)

  -- past the count they are 0
  pub own-past : (place : ℕ) → t.count ≤ place → get_or (own_choice t) place 0 ≡ 0
  unfolding own_choice fault_at
  own-past place past = go (dec_lt place 8)
    where
      go : Dec (place < 8) → get_or (filled_below (fault_at t) 8 (replicate 8 0)) place 0 ≡ 0
      go (yes below) = filled_at (fault_at t) 8 (replicate 8 0) 0 (omega arith) place below ∙ simp (le-ltb place t.count past)
      go (no over) = filled-past (fault_at t) 8 (replicate 8 0) 0 place (omega arith) ∙ alike_at 0 8 place

  -- there are eight
  pub length-own : length (own_choice t) ≡ 8
  unfolding own_choice
  length-own = length-filled (fault_at t) 8 (replicate 8 0)

  -- and they are a choice of a good table
  pub own-allowed : table_refusal t ≡ 0 → Allowed t (own_choice t)
  own-allowed good =
      let known = good-table t good in
      record {
        each = λ place below. subst (λ (q : ℕ). (1 ≤ q) × (q ≤ (record_at t.records place).priority)) (sym (own_at place below known.count.1)) (good-at t.count (record_at t.records) known.records place below).fault;
        past = own-past;
      }

  -- so that asking for them is refused only for what a table is refused for
  pub own-last : (refusal : ℕ) → (refusal ≡ 0 → table_refusal t ≡ 0) → or_else refusal (cond (all_allowed (priorities_of t) (own_choice t)) 0 13) ≡ refusal
  unfolding or_else
  own-last refusal fine = go (ℕ_discrete refusal 0)
    where
      go : Dec (refusal ≡ 0) → cond (eqb refusal 0) (cond (all_allowed (priorities_of t) (own_choice t)) 0 13) refusal ≡ refusal
      go (yes none) = simp (eq-eqb refusal 0 none, (allowed-exactly t (fine none) (own_choice t) length-own).1 (own-allowed (fine none))) (sym none)
      go (no broken) = simp (ne_eqb refusal 0 broken)

  pub own-refusal : choice_refusal t (own_choice t) ≡ table_refusal t
  unfolding choice_refusal
  own-refusal = own-last (table_refusal t) (λ e. e)
