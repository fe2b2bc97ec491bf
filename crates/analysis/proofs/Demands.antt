-- The demands on times in the request's words, about the definitions: the least times, the response, late, the verdict, the least interval.
-- That rounding up gives the least k with a ≤ k × b is `up-enough` and `up_least` of Rounding.antt; what stands beside a refusal is in Refused.antt. Assumes nothing.
use Prim.Native.Nat.{ℕ, suc, ◌≤◌, ◌<◌, max}
use mathlib.Core.Path.{◌≡◌, refl, sym, ap, ◌∙◌, subst}
use mathlib.Core.Bool.{Bool, true, false, not, true≢false}
use mathlib.Core.List.{List}
use mathlib.Core.Logic.{◌↔◌}
use native.Mathlib.Decide.{ℕ_discrete}
use native.Mathlib.Omega.{arith}
use borrow.Author.Tests.{eq-eqb, not-true}
use Rattle.places.specs.Places.{some_below}
use Rattle.places.proofs.Some.{some-found, some-none}
use Rattle.places.proofs.Search.{Fails, Says, first_says, first_found, first-none}
use Rattle.sheet.specs.declared.Table.{Table}
use Rattle.sheet.specs.Rules.{table_refusal}
use Rattle.sheet.specs.Layout.{record_at}
use Rattle.sheet.proofs.Cases.{GoodTable, good-table, good-at}
use Rattle.analysis.specs.declared.Equation.{Equation}
use Rattle.analysis.specs.declared.Equation.TheVariants.{Elsewhere, Itself, Assurance}
use Rattle.analysis.specs.Common.Tasks.{Tasks, tasks_of, own_choice}
use Rattle.analysis.specs.Published.Equations.{struck_elsewhere, struck_itself}
use Rattle.analysis.specs.Common.Search.{least_within}
use Rattle.analysis.specs.Published.Response.{time_elsewhere, time_itself, response_within, response_time, late, passes}
use Rattle.analysis.specs.Common.Entries.{is_late}
use Rattle.analysis.specs.Assured.Equation.{assured_equation}
use Rattle.analysis.specs.Assured.Time.{assured_within, assured_time}
use Rattle.analysis.specs.ByEquation.{asked_by, time_of}
use Rattle.analysis.specs.declared.Rule.{Rule}
use Rattle.analysis.specs.Published.Answers.{least_interval}
use Rattle.analysis.specs.ByRule.{meets, least_interval_by}
use Rattle.analysis.proofs.Laws.Common.Climbing.{Least, least-says, least-found, least-none}
use Rattle.analysis.proofs.Laws.Published.EachTick.{itself-never}
use Rattle.analysis.proofs.Laws.Published.Larger.{late-elsewhere, late-itself, on-time}

-- L is at least what is asked of it, from the start and within the limit, and every smaller number from the start fails that
pub record IsLeast (asked : ℕ → ℕ) (start limit L : ℕ) : Type 0 where
  pub low : start ≤ L
  pub high : L ≤ limit
  pub enough : asked L ≤ L
  pub smaller : (k : ℕ) → start ≤ k → k < L → k < asked k

-- every number from the start within the limit fails what is asked of it
abbrev pub NoValue : (ℕ → ℕ) → ℕ → ℕ → Type 0
NoValue asked start limit = (k : ℕ) → start ≤ k → k ≤ limit → k < asked k

module _ (asked : ℕ → ℕ) (start limit : ℕ) (some : 1 ≤ start) where
  least-is : (L : ℕ) → 1 ≤ L → (least_within asked start limit ≡ L) ↔ IsLeast asked start limit L
  least-is L long = (λ e. go (least-says asked start limit) e, λ w. least-found asked start limit L w.low w.high w.smaller w.enough)
    where
      go : {r : ℕ} → Least asked start limit r → r ≡ L → IsLeast asked start limit L
      go (Least.none short) e = absurd (omega arith)
      go (Least.least low high fits short) e = subst (IsLeast asked start limit) e (record { low = low; high = high; enough = fits; smaller = short })

  none_is : (least_within asked start limit ≡ 0) ↔ NoValue asked start limit
  none_is = (λ e. go (least-says asked start limit) e, λ fails. least-none asked start limit (suc limit) (omega arith) (λ k low high. fails k low (omega arith)))
    where
      go : {r : ℕ} → Least asked start limit r → r ≡ 0 → NoValue asked start limit
      go (Least.none short) e = λ k low high. short k low (omega arith)
      go (Least.least low high fits short) e = absurd (omega arith)

module _ (limit : ℕ) (s : Tasks) (i : ℕ) where
  -- the time struck elsewhere is the least that its equation allows within the limit
  pub elsewhere-least : (L : ℕ) → 1 ≤ L → (time_elsewhere limit s i ≡ L) ↔ IsLeast (struck_elsewhere s i) 1 limit L
  unfolding time_elsewhere
  elsewhere-least L long = least-is (struck_elsewhere s i) 1 limit (omega arith) L long

  -- the time struck itself is the least that its equation allows within the limit
  pub itself-least : (L : ℕ) → 1 ≤ L → (time_itself limit s i ≡ L) ↔ IsLeast (struck_itself s i) 1 limit L
  unfolding time_itself
  itself-least L long = least-is (struck_itself s i) 1 limit (omega arith) L long

  -- "The response time is the larger of the two times."
  pub response-larger : 1 ≤ time_elsewhere limit s i → 1 ≤ time_itself limit s i → response_within limit s i ≡ max (time_elsewhere limit s i) (time_itself limit s i)
  response-larger first second = sym (on-time limit s i (λ e. omega arith) (λ e. omega arith))

  -- the two ways to have no response time within the limit
  pub data Missing : Type 0 where
    no-time-elsewhere : NoValue (struck_elsewhere s i) 1 limit → Missing
    no-time-itself : NoValue (struck_itself s i) 1 limit → Missing

  elsewhere-none : (time_elsewhere limit s i ≡ 0) ↔ NoValue (struck_elsewhere s i) 1 limit
  unfolding time_elsewhere
  elsewhere-none = none_is (struck_elsewhere s i) 1 limit (omega arith)

  itself-none : (time_itself limit s i ≡ 0) ↔ NoValue (struck_itself s i) 1 limit
  unfolding time_itself
  itself-none = none_is (struck_itself s i) 1 limit (omega arith)

  -- there is none exactly if one of the two equations has no value
  pub missing-exactly : (response_within limit s i ≡ 0) ↔ Missing
  missing-exactly = (λ e. first (ℕ_discrete (time_elsewhere limit s i) 0) (ℕ_discrete (time_itself limit s i) 0) e, back)
    where
      first : Dec (time_elsewhere limit s i ≡ 0) → Dec (time_itself limit s i ≡ 0) → response_within limit s i ≡ 0 → Missing
      first (yes z) side e = no-time-elsewhere (elsewhere-none.0 z)
      first (no a) (yes z) e = no-time-itself (itself-none.0 z)
      first (no a) (no b) e = absurd (let larger = on-time limit s i a b in omega arith)

      later : time_itself limit s i ≡ 0 → Dec (time_elsewhere limit s i ≡ 0) → response_within limit s i ≡ 0
      later none (yes z) = sym (late-elsewhere limit s i z)
      later none (no z) = sym (late-itself limit s i z none)

      back : Missing → response_within limit s i ≡ 0
      back (no-time-elsewhere v) = sym (late-elsewhere limit s i (elsewhere-none.1 v))
      back (no-time-itself v) = later (itself-none.1 v) (ℕ_discrete (time_elsewhere limit s i) 0)

-- the assured time is the least that its equation allows up to 65,535, and there is none exactly if no number up to there is enough
module _ (s : Tasks) (i : ℕ) where
  pub low-least : (L : ℕ) → 1 ≤ L → (assured_time s i ≡ L) ↔ IsLeast (assured_equation s i) 1 65535 L
  unfolding assured_time assured_within
  low-least L long = least-is (assured_equation s i) 1 65535 (omega arith) L long

  pub low-none : (assured_time s i ≡ 0) ↔ NoValue (assured_equation s i) 1 65535
  unfolding assured_time assured_within
  low-none = none_is (assured_equation s i) 1 65535 (omega arith)

-- the time by each equation is the least that it allows up to 65,535, and there is none exactly if no number up to there is enough
module _ (equation : Equation) (s : Tasks) (i : ℕ) where
  pub solution-least : (L : ℕ) → 1 ≤ L → (time_of equation s i ≡ L) ↔ IsLeast (asked_by equation s i) 1 65535 L
  unfolding time_of asked_by
  solution-least L long = by equation
    where
      by : (e : Equation) → (time_of e s i ≡ L) ↔ IsLeast (asked_by e s i) 1 65535 L
      by Elsewhere = elsewhere-least 65535 s i L long
      by Itself = itself-least 65535 s i L long
      by Assurance = low-least s i L long

  pub solution-none : (time_of equation s i ≡ 0) ↔ NoValue (asked_by equation s i) 1 65535
  unfolding time_of asked_by
  solution-none = by equation
    where
      by : (e : Equation) → (time_of e s i ≡ 0) ↔ NoValue (asked_by e s i) 1 65535
      by Elsewhere = elsewhere-none 65535 s i
      by Itself = itself-none 65535 s i
      by Assurance = low-none s i

-- "A sheet passes if no task is late."
pub passes-exactly : (s : Tasks) → (passes s ≡ true) ↔ ((i : ℕ) → i < s.count → late s i ≡ false)
unfolding passes
passes-exactly s = (
  λ e i below. go (late s i) refl i below (not-true (some_below (late s) s.count) e),
  λ each. ap not (some-none (late s) s.count each),
)
  where
    go : (b : Bool) {i : ℕ} → late s i ≡ b → (j : ℕ) → i < s.count → some_below (late s) s.count ≡ false → b ≡ false
    go true {i} e j below none = absurd (true≢false (sym (some-found (late s) i s.count below e) ∙ none))
    go false e j below none = refl

-- at E = 1, where a fault comes each tick, no good table passes, whatever the choice: its first task has no time struck itself
pub fails-at-1 : (t : Table) → table_refusal t ≡ 0 → (choice : List ℕ) → passes (tasks_of t 1 choice) ≡ false
unfolding response_time is_late
fails-at-1 t good choice = go (passes (tasks_of t 1 choice)) refl
  where
    table : GoodTable t
    table = good-table t good

    first : 0 < t.count
    first = omega (arith, table.count.0)

    none : response_time (tasks_of t 1 choice) 0 ≡ 0
    none =
        let task = good-at t.count (record_at t.records) table.records 0 first in
        (missing-exactly 65535 (tasks_of t 1 choice) 0).1 (no-time-itself (λ k low high. itself-never (tasks_of t 1 choice) refl 0 first task.cost.0 task.backup.0 k))

    go : (b : Bool) → passes (tasks_of t 1 choice) ≡ b → b ≡ false
    go true e = absurd (true≢false (sym (simp (eq-eqb _ 0 none)) ∙ (passes-exactly (tasks_of t 1 choice)).0 e 0 first))
    go false e = refl

-- whether a table meets a rule at an interval, with its own fault priorities
abbrev pub meets_at : Rule → Table → ℕ → Bool
meets_at rule t interval = meets rule (tasks_of t interval (own_choice t))

-- the least interval by a rule: the rule is met at it, and at none below
pub least_by : (rule : Rule) (t : Table) (interval : ℕ) → 1 ≤ interval
    → (least_interval_by rule t ≡ interval) ↔ ((interval ≤ 65535) × (meets_at rule t interval ≡ true) × ((e : ℕ) → 1 ≤ e → e < interval → meets_at rule t e ≡ false))
unfolding least_interval_by
least_by rule t interval some =
    (λ e. go (first_says (meets_at rule t) 65535 1) e, λ w. first_found (meets_at rule t) 65535 1 interval some (omega arith) w.2 w.1)
  where
    go : {r : ℕ} → Says (meets_at rule t) 1 65535 r → r ≡ interval → (interval ≤ 65535) × (meets_at rule t interval ≡ true) × ((e : ℕ) → 1 ≤ e → e < interval → meets_at rule t e ≡ false)
    go (Says.none fails) e = absurd (omega arith)
    go (Says.found low high fails holds) e = (omega arith, ap (meets_at rule t) (sym e) ∙ holds, subst (Fails (meets_at rule t) 1) e fails)

-- and there is none exactly if it is met at no interval from 1 to 65,535
pub least-by-none : (rule : Rule) (t : Table) → (least_interval_by rule t ≡ 0) ↔ ((e : ℕ) → 1 ≤ e → e ≤ 65535 → meets_at rule t e ≡ false)
unfolding least_interval_by
least-by-none rule t = (λ e. go (first_says (meets_at rule t) 65535 1) e, λ fails. first-none (meets_at rule t) 65535 1 (λ k low high. fails k low (omega arith)))
  where
    go : {r : ℕ} → Says (meets_at rule t) 1 65535 r → r ≡ 0 → (e : ℕ) → 1 ≤ e → e ≤ 65535 → meets_at rule t e ≡ false
    go (Says.none fails) e k low high = fails k low (omega arith)
    go (Says.found first last fails holds) e k low high = absurd (omega arith)

-- whether a table passes at an interval, with its own fault priorities
abbrev pub passes_at : Table → ℕ → Bool
passes_at t interval = passes (tasks_of t interval (own_choice t))

-- "the smallest E from 1 to 65,535 at which the sheet passes": the least interval passes, and none below it does
pub interval-least : (t : Table) (interval : ℕ) → 1 ≤ interval
    → (least_interval t ≡ interval) ↔ ((interval ≤ 65535) × (passes_at t interval ≡ true) × ((e : ℕ) → 1 ≤ e → e < interval → passes_at t e ≡ false))
unfolding least_interval
interval-least t interval some =
    (λ e. go (first_says (passes_at t) 65535 1) e, λ w. first_found (passes_at t) 65535 1 interval some (omega arith) w.2 w.1)
  where
    go : {r : ℕ} → Says (passes_at t) 1 65535 r → r ≡ interval → (interval ≤ 65535) × (passes_at t interval ≡ true) × ((e : ℕ) → 1 ≤ e → e < interval → passes_at t e ≡ false)
    go (Says.none fails) e = absurd (omega arith)
    go (Says.found low high fails holds) e = (omega arith, ap (passes_at t) (sym e) ∙ holds, subst (Fails (passes_at t) 1) e fails)

-- "none" exactly if no interval from 1 to 65,535 passes
pub interval-none : (t : Table) → (least_interval t ≡ 0) ↔ ((e : ℕ) → 1 ≤ e → e ≤ 65535 → passes_at t e ≡ false)
unfolding least_interval
interval-none t = (λ e. go (first_says (passes_at t) 65535 1) e, λ fails. first-none (passes_at t) 65535 1 (λ k low high. fails k low (omega arith)))
  where
    go : {r : ℕ} → Says (passes_at t) 1 65535 r → r ≡ 0 → (e : ℕ) → 1 ≤ e → e ≤ 65535 → passes_at t e ≡ false
    go (Says.none fails) e k low high = fails k low (omega arith)
    go (Says.found first last fails holds) e k low high = absurd (omega arith)

-- no least interval of a good table is 1
pub interval-not-1 : (t : Table) → table_refusal t ≡ 0 → least_interval t ≡ 1 → ⊥
interval-not-1 t good e =
    true≢false (sym ((interval-least t 1 (omega arith)).0 e).1 ∙ fails-at-1 t good (own_choice t))
