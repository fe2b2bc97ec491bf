-- First fit as the code goes along: the cores as they stand before each place, and the first record that fits none. Over any tasks and any number of cores. Assumes nothing.
use Prim.Native.Nat.{ℕ, zero, suc, ◌+◌, ◌-◌, ◌≤◌, ◌<◌}
use mathlib.Core.Path.{◌≡◌, refl, sym, ap, ◌∙◌, fun_ext}
use mathlib.Core.Bool.{false, cond}
use mathlib.Core.List.{List}
use mathlib.Core.Logic.{⊎_elim}
use native.Mathlib.Nat.{eq-or-lt_of_le}
use native.Mathlib.Decide.{ℕ_discrete}
use native.Mathlib.Omega.{arith}
use borrow.Author.Tests.{eq-eqb, ne_eqb}
use lib.Dec.{eqb}
use lib.ListN.{get_or, set, replicate}
use lib.Seq.{get_or-set_same, get_or-set_other}
use Rattle.std.specs.Prelude.{Ok}
use Rattle.places.specs.Places.{filled_below}
use Rattle.places.proofs.Filled.{length-filled, alike_at}
use Rattle.places.proofs.Search.{first_found, first-none}
use Rattle.analysis.specs.Common.Tasks.{Tasks}
use Rattle.cores.specs.declared.Placing.TheVariants as put
use Rattle.cores.specs.Told.{fit_told, placing_told}
use Rattle.cores.specs.Answers.{cores_of, placing_of}
use Rattle.cores.specs.FirstFit.{lowest_core, cores_before, core_of, fits_none}

module _ (s : Tasks) (number : ℕ) where
  -- the cores given so far, in room for eight
  abbrev pub given : ℕ → List ℕ
  given place = filled_below (core_of s number) place (replicate 8 0)

  -- they are the cores as they stand
  pub stands : (place : ℕ) → place ≤ 8 → (k : ℕ) → get_or (given place) k 0 ≡ cores_before s number place k
  unfolding filled_below cores_before core_of
  stands zero few k = alike_at 0 8 k
  stands (suc n) few k = go (ℕ_discrete k n) (stands n (omega arith) k)
    where
      go : Dec (k ≡ n) → get_or (given n) k 0 ≡ cores_before s number n k
          → get_or (set (given n) n (core_of s number n)) k 0 ≡ cond (eqb k n) (lowest_core s number (cores_before s number n) n) (cores_before s number n k)
      go (yes e) before = rw e (rw (eq-eqb n n refl) (get_or-set_same (given n) n (core_of s number n) 0 (omega (arith, length-filled (core_of s number) n (replicate 8 0)))))
      go (no e) before = rw (ne_eqb k n e) (get_or-set_other (given n) n k (core_of s number n) 0 e ∙ before)

  -- so the lowest core by them is the record's
  pub lowest-given : (place : ℕ) → place ≤ 8 → (cores : List ℕ) → cores ≡ given place → (core : ℕ) → core ≡ lowest_core s number (λ k. get_or cores k 0) place → core ≡ core_of s number place
  unfolding core_of
  lowest-given place few cores e core is =
      is ∙ ap (λ (at : ℕ → ℕ). lowest_core s number at place) (fun_ext (λ k. ap (λ (l : List ℕ). get_or l k 0) e ∙ stands place few k))

  -- each record before a place has its core
  abbrev pub Fitted : ℕ → Type 0
  Fitted place = (k : ℕ) → k < place → core_of s number k ≡ 0 → ⊥

  pub fitted-more : (place : ℕ) → Fitted place → (core_of s number place ≡ 0 → ⊥) → Fitted (place + 1)
  fitted-more place fitted here k low = ⊎_elim (λ e none. here (ap (core_of s number) (sym e) ∙ none)) (λ lt. fitted k lt) (eq-or-lt_of_le (omega arith))

  tests_below : (place : ℕ) → Fitted place → (k : ℕ) → 1 ≤ k → k < place + 1 → eqb (core_of s number (k - 1)) 0 ≡ false
  tests_below place fitted k some low = ne_eqb _ 0 (fitted (k - 1) (omega arith))

  -- the first that has none
  pub none-at : (place : ℕ) → place < s.count → Fitted place → core_of s number place ≡ 0 → fits_none s number ≡ place + 1
  unfolding fits_none
  none-at place below fitted none =
      first_found (λ taken. eqb (core_of s number (taken - 1)) 0) s.count 1 (place + 1) (omega arith) (omega arith) (tests_below place fitted)
      (let back : place + 1 - 1 ≡ place = omega arith in eq-eqb _ 0 (ap (core_of s number) back ∙ none))

  -- or all have theirs
  pub all_fit : Fitted s.count → fits_none s number ≡ 0
  unfolding fits_none
  all_fit fitted = first-none (λ taken. eqb (core_of s number (taken - 1)) 0) s.count 1 (λ k some low. tests_below s.count fitted k some (omega arith))

  -- the answer where a record fits none
  pub placing-none : (place : ℕ) → place < s.count → Fitted place → core_of s number place ≡ 0 → Ok (put.FitsNone (place + 1)) ≡ placing_told (placing_of 0 s number)
  unfolding placing_of fit_told
  placing-none place below fitted none =
      let told = none-at place below fitted none in
      simp (told, ne_eqb (place + 1) 0 (λ e. omega arith))

  -- and where each record has its core
  pub placing-all : (cores : List ℕ) → cores ≡ given s.count → Fitted s.count → Ok (put.Everyone cores) ≡ placing_told (placing_of 0 s number)
  unfolding placing_of cores_of fit_told
  placing-all cores e fitted = simp (all_fit fitted, e)
