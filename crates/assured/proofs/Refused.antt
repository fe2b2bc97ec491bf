-- What stands in each answer, refused or not, and the order of the refusals: "a table's or sheet's, 19, then" 12 for the place. Assumes nothing.
use Prim.Native.Nat.{ℕ, ◌≤◌, ◌<◌}
use mathlib.Core.Path.{◌≡◌, refl, ap, ◌∙◌}
use mathlib.Core.Bool.{true, false}
use borrow.Author.Tests.{eq-eqb, ne_eqb, lt-ltb, le-ltb}
use lib.ListN.{length, get_or, replicate, get_or-replicate}
use Rattle.places.proofs.Filled.{filled_at, length-filled, filled-past}
use Rattle.places.proofs.Refusals.{first_of, next-of, none_of}
use Rattle.sheet.specs.declared.Table.{Table}
use Rattle.sheet.specs.Layout.{record_at, is_whole}
use Rattle.sheet.specs.Rules.{table_refusal, shared_refusal}
use Rattle.sheet.proofs.Cases.{good-table}
use Rattle.analysis.specs.declared.Outcome.TheVariants.{OnTime, Late}
use Rattle.analysis.specs.Assured.Time.{assured_time, unassured, assured}
use Rattle.analysis.specs.Common.Entries.{outcome_of, own_tasks}
use Rattle.assured.specs.declared.Entry.{Entry}
use Rattle.assured.specs.Answers.{assured_refusal, entry_of, no_entry, place_refusal, time_answer, times_answer}

-- "deadline 0 beside time 0"
pub record Blank (e : Entry) : Type 0 where
  pub deadline : e.deadline ≡ 0
  pub time : e.outcome ≡ OnTime 0

-- what an entry says of the record at a place: its own deadline, beside the assured time, or late where that is not within the deadline
pub record Answers (t : Table) (place : ℕ) (e : Entry) : Type 0 where
  pub deadline : e.deadline ≡ (record_at t.records place).deadline
  pub is-late : unassured (own_tasks t) place ≡ true → e.outcome ≡ Late
  pub is-assured : unassured (own_tasks t) place ≡ false → e.outcome ≡ OnTime (assured_time (own_tasks t) place)

blank : (e : Entry) → e ≡ no_entry → Blank e
blank e same = record { deadline = ap (λ (x : Entry). x.deadline) same; time = ap (λ (x : Entry). x.outcome) same }

answers : (t : Table) (place : ℕ) (e : Entry) → e ≡ entry_of (own_tasks t) place → Answers t place e
unfolding entry_of outcome_of
answers t place e same =
    record {
      deadline = ap (λ (x : Entry). x.deadline) same;
      is-late = λ is. ap (λ (x : Entry). x.outcome) same ∙ simp is;
      is-assured = λ is. ap (λ (x : Entry). x.outcome) same ∙ simp is;
    }

module _ (t : Table) where
  -- the order: the table's own rules, then 19 for a shared processor, then 12 for a place that is not below the count; else nothing is refused
  pub own_first : (table_refusal t ≡ 0 → ⊥) → assured_refusal t ≡ table_refusal t
  unfolding assured_refusal
  own_first broken = first_of (table_refusal t) (shared_refusal t) broken

  module _ (good : table_refusal t ≡ 0) where
    pub shared-next : is_whole t.round t.share ≡ false → assured_refusal t ≡ 19
    unfolding assured_refusal shared_refusal
    shared-next shared = next-of (shared_refusal t) good ∙ simp shared

    pub whole-fine : is_whole t.round t.share ≡ true → assured_refusal t ≡ 0
    unfolding assured_refusal shared_refusal
    whole-fine whole = next-of (shared_refusal t) good ∙ simp whole

  module _ (place : ℕ) where
    pub place_after : (assured_refusal t ≡ 0 → ⊥) → place_refusal t place ≡ assured_refusal t
    unfolding place_refusal
    place_after broken = first_of (assured_refusal t) _ broken

    pub place-past : assured_refusal t ≡ 0 → t.count ≤ place → place_refusal t place ≡ 12
    unfolding place_refusal
    place-past fine past = next-of _ fine ∙ simp (le-ltb place t.count past)

    pub place-fine : assured_refusal t ≡ 0 → place < t.count → place_refusal t place ≡ 0
    unfolding place_refusal
    place-fine fine below = next-of _ fine ∙ simp (lt-ltb place t.count below)

    -- `assured_time`: refused, the number beside such an entry
    pub time-refused : (place_refusal t place ≡ 0 → ⊥) → ((time_answer t place).refusal ≡ place_refusal t place) × Blank (time_answer t place).entry
    unfolding time_answer
    time-refused broken = simp (ne_eqb (place_refusal t place) 0 broken) (refl, blank no_entry refl)

    -- else 0 beside what it is to say
    pub time-given : assured_refusal t ≡ 0 → place < t.count → ((time_answer t place).refusal ≡ 0) × Answers t place (time_answer t place).entry
    unfolding time_answer
    time-given fine below =
        let none = place-fine fine below in
        simp (eq-eqb (place_refusal t place) 0 none) (none, answers t place (entry_of (own_tasks t) place) refl)

  -- `assured_times`: refused, the number beside eight such entries and no
  pub times-refused : (assured_refusal t ≡ 0 → ⊥)
      → ((times_answer t).refusal ≡ assured_refusal t) × ((times_answer t).assured ≡ false) × (length (times_answer t).entries ≡ 8) × ((k : ℕ) → k < 8 → (other : Entry) → Blank (get_or (times_answer t).entries k other))
  unfolding times_answer
  times-refused broken = simp (ne_eqb (assured_refusal t) 0 broken) (refl, refl, refl, λ k low other. blank _ (get_or-replicate 8 k no_entry other low))

  -- else 0 beside whether the own fault priorities are assured, what each record's entry is to say, and such entries past the count
  pub times-given : assured_refusal t ≡ 0
      → ((times_answer t).refusal ≡ 0) × ((times_answer t).assured ≡ assured (own_tasks t)) × (length (times_answer t).entries ≡ 8)
      × ((k : ℕ) → k < t.count → (other : Entry) → Answers t k (get_or (times_answer t).entries k other))
      × ((k : ℕ) → t.count ≤ k → k < 8 → (other : Entry) → Blank (get_or (times_answer t).entries k other))
  unfolding times_answer assured_refusal
  times-given fine =
      let good = (none_of (table_refusal t) (shared_refusal t) fine).0 in
      let few = (good-table t good).count.1 in
      simp (eq-eqb (assured_refusal t) 0 fine) (
        fine,
        refl,
        length-filled (entry_of (own_tasks t)) t.count (replicate 8 no_entry),
        λ k below other. answers t k _ (filled_at (entry_of (own_tasks t)) t.count (replicate 8 no_entry) other few k below),
        λ k past low other. blank _ (filled-past (entry_of (own_tasks t)) t.count (replicate 8 no_entry) other k past ∙ get_or-replicate 8 k no_entry other low),
      )
