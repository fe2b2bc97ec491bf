-- Ask 13 in its own words, about the definitions that `place` promises, for any tasks and any number of cores. Assumes nothing.
use Prim.Native.Nat.{ℕ, zero, suc, ◌+◌, ◌-◌, ◌≤◌, ◌<◌}
use mathlib.Core.Path.{◌≡◌, refl, sym, ap, ◌∙◌}
use mathlib.Core.Bool.{Bool, true, false, ◌||◌, true≢false}
use mathlib.Core.Logic.{◌↔◌, ⊎_elim}
use native.Mathlib.Nat.{not-suc-le-zero, eq-or-lt_of_le, le_of_suc-le-suc}
use native.Mathlib.Decide.{ℕ_discrete}
use native.Mathlib.Omega.{arith}
use borrow.Author.Tests.{eq-eqb, ne_eqb, eqb-true}
use lib.Dec.{eqb}
use lib.ListN.{get_or}
use Rattle.places.specs.Places.{some_below}
use Rattle.places.proofs.Search.{Fails, first-exactly, none-exactly}
use Rattle.sheet.specs.declared.Table.{Table}
use Rattle.sheet.specs.Rules.{table_refusal}
use Rattle.analysis.specs.Common.Tasks.{Tasks}
use Rattle.analysis.specs.Published.Response.{passes}
use Rattle.analysis.specs.Common.Entries.{own_tasks}
use Rattle.cores.specs.Renumbered.{picked, core_tasks, tasks_at}
use Rattle.cores.specs.FirstFit.{joins, still_pass, lowest_core, cores_before, core_of, fits_none}
use Rattle.cores.proofs.Renumbering.{tasks-agree, tasks-skip, priorities-within, priorities-order, priorities-apart, priorities-onto}
use Rattle.cores.proofs.FittedSoFar.{Fitted}
use Rattle.cores.proofs.Trying.{distinct}

module _ (s : Tasks) (number : ℕ) where
  -- whether a record is on the core, before a place is taken, and in the end
  abbrev pub is_on_before : ℕ → ℕ → ℕ → Bool
  is_on_before place core k = eqb (cores_before s number place k) core

  abbrev pub is_on : ℕ → ℕ → Bool
  is_on core k = eqb (core_of s number k) core

  before_here : (n : ℕ) → cores_before s number (suc n) n ≡ core_of s number n
  unfolding cores_before core_of
  before_here n = simp (eq-eqb n n refl)

  before-other : (n k : ℕ) → (k ≡ n → ⊥) → cores_before s number (suc n) k ≡ cores_before s number n k
  unfolding cores_before
  before-other n k other = simp (ne_eqb k n other)

  -- once given, a core is kept
  pub core-kept : (place k : ℕ) → k < place → cores_before s number place k ≡ core_of s number k
  core-kept zero k low = absurd (not-suc-le-zero low)
  core-kept (suc n) k low = ⊎_elim (λ e. ap (cores_before s number (suc n)) e ∙ before_here n ∙ ap (core_of s number) (sym e)) (λ lt. before-other n k (λ e. omega arith) ∙ core-kept n k lt) (eq-or-lt_of_le (le_of_suc-le-suc low))

  -- "the lowest-numbered core where that core's tasks still pass": each record is on the lowest-numbered core where it still passed when it was placed
  pub core-lowest : (place core : ℕ) → 1 ≤ core
      → (core_of s number place ≡ core) ↔ ((core ≤ number) × (still_pass s (cores_before s number place) place core ≡ true) × Fails (still_pass s (cores_before s number place) place) 1 core)
  unfolding core_of lowest_core
  core-lowest place core some = first-exactly (still_pass s (cores_before s number place) place) number core some

  -- a record has no core exactly if it fits none of the cores as they stood
  pub core-none : (place : ℕ) → (core_of s number place ≡ 0) ↔ ((core : ℕ) → 1 ≤ core → core ≤ number → still_pass s (cores_before s number place) place core ≡ false)
  unfolding core_of lowest_core
  core-none place = none-exactly (still_pass s (cores_before s number place) place) number

  -- "the first record that fits none", from 1: it is a record, has no core, and each before it has one
  pub fits-none : (r : ℕ) → 1 ≤ r → (fits_none s number ≡ r) ↔ ((r ≤ s.count) × (core_of s number (r - 1) ≡ 0) × Fitted s number (r - 1))
  unfolding fits_none
  fits-none r some =
      let exactly = first-exactly (λ taken. eqb (core_of s number (taken - 1)) 0) s.count r some in (
        λ e. let h = exactly.0 e in (h.0, eqb-true (core_of s number (r - 1)) 0 h.1, λ k low none. true≢false (sym (eq-eqb _ 0 none) ∙ back k ∙ h.2 (k + 1) (omega arith) (omega arith))),
        λ h. exactly.1 (h.0, eq-eqb _ 0 h.1, λ k low high. ne_eqb _ 0 (h.2 (k - 1) (omega arith))),
      )
    where
      back : (k : ℕ) → eqb (core_of s number k) 0 ≡ eqb (core_of s number (k + 1 - 1)) 0
      back k = let same : k ≡ k + 1 - 1 = omega arith in ap (λ (j : ℕ). eqb (core_of s number j) 0) same

  -- each record has its core where there is no such record
  pub all-fitted : fits_none s number ≡ 0 → Fitted s number s.count
  unfolding fits_none
  all-fitted e k low none =
      let back : k + 1 - 1 ≡ k = omega arith in
      true≢false (sym (eq-eqb _ 0 (ap (core_of s number) back ∙ none)) ∙ (none-exactly (λ taken. eqb (core_of s number (taken - 1)) 0) s.count).0 e (k + 1) (omega arith) (omega arith))

  -- the core of a record that is placed on it has the tasks it was tried with
  placed_alike : (n core : ℕ) → core_of s number n ≡ core → (k : ℕ) → k < suc n → is_on_before (suc n) core k ≡ joins (cores_before s number n) n core k
  unfolding joins
  placed_alike n core here k low = go (ℕ_discrete k n)
    where
      go : Dec (k ≡ n) → eqb (cores_before s number (suc n) k) core ≡ (eqb k n || eqb (cores_before s number n k) core)
      go (yes e) = rw (eq-eqb k n e) (eq-eqb _ core (ap (cores_before s number (suc n)) e ∙ before_here n ∙ here))
      go (no e) = rw (ne_eqb k n e) (ap (λ (c : ℕ). eqb c core) (before-other n k e))

  -- "Every core reported passes demand 2's equations": at any time, each core's tasks pass
  pub standing-passes : (place core : ℕ) → 1 ≤ core → passes (core_tasks s (is_on_before place core) place) ≡ true
  unfolding core_tasks tasks_at picked passes some_below still_pass
  standing-passes zero core some = refl
  standing-passes (suc n) core some = go (ℕ_discrete (core_of s number n) core) (standing-passes n core some)
    where
      go : Dec (core_of s number n ≡ core) → passes (core_tasks s (is_on_before n core) n) ≡ true → passes (core_tasks s (is_on_before (suc n) core) (suc n)) ≡ true
      go (yes e) before = ap passes (tasks-agree s _ _ (suc n) (placed_alike n core e)) ∙ ((core-lowest n core some).0 e).1
      go (no e) before =
          ap passes (tasks-skip s (is_on_before (suc n) core) n (ne_eqb _ core (λ z. e (sym (before_here n) ∙ z)))
          ∙ tasks-agree s _ _ n (λ k low. ap (λ (c : ℕ). eqb c core) (before-other n k (λ z. omega arith))))
          ∙ before

  -- and so in the end
  pub core-passes : (core : ℕ) → 1 ≤ core → passes (core_tasks s (is_on core) s.count) ≡ true
  core-passes core some = ap passes (tasks-agree s _ _ s.count (λ k low. ap (λ (c : ℕ). eqb c core) (sym (core-kept s.count k low)))) ∙ standing-passes s.count core some

-- "with priorities ranked from 1 in their old order within the core": the priorities on a core are 1 to the number of records, each once, in the old order
pub record RenumberedInOrder (s : Tasks) (test : ℕ → Bool) (n : ℕ) : Type 0 where
  pub within : (j : ℕ) → j < (core_tasks s test n).count → (1 ≤ ((core_tasks s test n).at j).priority) × (((core_tasks s test n).at j).priority ≤ (core_tasks s test n).count)
  pub once : (i j : ℕ) → i < (core_tasks s test n).count → j < (core_tasks s test n).count → ((core_tasks s test n).at i).priority ≡ ((core_tasks s test n).at j).priority → i ≡ j
  pub each : (priority : ℕ) → 1 ≤ priority → priority ≤ (core_tasks s test n).count → (j : ℕ) × (j < (core_tasks s test n).count) × (((core_tasks s test n).at j).priority ≡ priority)
  pub order : (i j : ℕ) → i < (core_tasks s test n).count → j < (core_tasks s test n).count
      → (s.at (get_or (picked test n) i 0)).priority < (s.at (get_or (picked test n) j 0)).priority → ((core_tasks s test n).at i).priority < ((core_tasks s test n).at j).priority

pub renumbered-in-order : (t : Table) → table_refusal t ≡ 0 → (test : ℕ → Bool) (n : ℕ) → n ≤ t.count → RenumberedInOrder (own_tasks t) test n
renumbered-in-order t good test n few =
    let apart = distinct t good n few in
    record {
      within = priorities-within (own_tasks t) test n apart;
      once = priorities-apart (own_tasks t) test n apart;
      each = priorities-onto (own_tasks t) test n apart;
      order = priorities-order (own_tasks t) test n apart;
    }
