-- The equation that decides has the longer of the two times, and that is the time by the rule. Assumes nothing.
use Prim.Native.Nat.{ℕ, ◌≤◌, ◌<◌, max}
use mathlib.Core.Path.{◌≡◌, refl, sym, ap, ap₂, ◌∙◌, subst}
use mathlib.Core.Bool.{Bool, true, false, cond, ◌||◌}
use native.Mathlib.Decide.{ℕ_discrete, dec_lt}
use native.Mathlib.Omega.{arith}
use borrow.Author.Tests.{eq-eqb, ne_eqb, lt-ltb, le-ltb}
use lib.Dec.{eqb}
use Rattle.std.specs.Prelude.{Option, Ok, IfSome, unwrap_or}
use Rattle.places.specs.Answered.{answered}
use Rattle.places.proofs.Answered.{good_of, value_of}
use Rattle.sheet.specs.declared.Table.{Table}
use Rattle.analysis.specs.declared.Rule.{Rule}
use Rattle.analysis.specs.declared.Rule.TheVariants.{Published, Assured}
use Rattle.analysis.specs.declared.Equation.{Equation}
use Rattle.analysis.specs.declared.Equation.TheVariants.{Elsewhere, Itself}
use Rattle.analysis.specs.Told.{some_of}
use Rattle.analysis.specs.Common.Tasks.{Tasks}
use Rattle.analysis.specs.Common.Entries.{own_tasks}
use Rattle.analysis.specs.Published.Response.{time_elsewhere, time_itself, response_within, response_time}
use Rattle.analysis.specs.ByRule.{time_by, place_refusal}
use Rattle.analysis.specs.ByEquation.{rule_of, time_of, solution_of}
use Rattle.analysis.proofs.Laws.Common.Easier.{NoLater}
use Rattle.reasons.specs.Deciding.{is_longer, decides, decided_of}

-- the longer of two times, of which 0 is none: none where one of them is, else the larger
longer-of : (a b : ℕ) → cond (is_longer a b) b a ≡ cond (eqb a 0 || eqb b 0) 0 (max a b)
unfolding is_longer
longer-of a b = go (ℕ_discrete a 0) (ℕ_discrete b 0) (dec_lt a b)
  where
    go : Dec (a ≡ 0) → Dec (b ≡ 0) → Dec (a < b) → cond (is_longer a b) b a ≡ cond (eqb a 0 || eqb b 0) 0 (max a b)
    go (yes none) side larger = simp (eq-eqb a 0 none) none
    go (no some) (yes none) larger = simp (ne_eqb a 0 some, eq-eqb b 0 none) none
    go (no some) (no other) (yes less) = simp (ne_eqb a 0 some, ne_eqb b 0 other, lt-ltb a b less) (omega arith)
    go (no some) (no other) (no more) = simp (ne_eqb a 0 some, ne_eqb b 0 other, le-ltb a b (omega arith)) (omega arith)

-- neither is longer than it
longer-either : (a b : ℕ) → NoLater a (cond (is_longer a b) b a) × NoLater b (cond (is_longer a b) b a)
unfolding is_longer
longer-either a b = go (ℕ_discrete a 0) (ℕ_discrete b 0) (dec_lt a b)
  where
    go : Dec (a ≡ 0) → Dec (b ≡ 0) → Dec (a < b) → NoLater a (cond (is_longer a b) b a) × NoLater b (cond (is_longer a b) b a)
    go (yes none) side larger = rw (eq-eqb a 0 none) (λ some. absurd (omega arith), λ some. absurd (omega arith))
    go (no some) (yes none) larger = rw (ne_eqb a 0 some, eq-eqb b 0 none) (λ long. absurd (omega arith), λ long. absurd (omega arith))
    go (no some) (no other) (yes less) = rw (ne_eqb a 0 some, ne_eqb b 0 other, lt-ltb a b less) (λ long. (omega arith, omega arith), λ long. (omega arith, omega arith))
    go (no some) (no other) (no more) = rw (ne_eqb a 0 some, ne_eqb b 0 other, le-ltb a b (omega arith)) (λ long. (omega arith, omega arith), λ long. (omega arith, omega arith))

-- the time of the one of the two equations that a test picks
picked-time : (s : Tasks) (i : ℕ) (b : Bool) → time_of (cond b Itself Elsewhere) s i ≡ cond b (time_of Itself s i) (time_of Elsewhere s i)
picked-time s i true = refl
picked-time s i false = refl

-- the time by the equation that decides is the time by the rule
pub decided-time : (rule : Rule) (s : Tasks) (i : ℕ) → time_of (decides rule s i) s i ≡ time_by rule s i
unfolding decides time_by time_of response_time response_within
decided-time Published s i = picked-time s i (is_longer (time_of Elsewhere s i) (time_of Itself s i)) ∙ longer-of (time_elsewhere 65535 s i) (time_itself 65535 s i)
decided-time Assured s i = refl

-- "the one with the larger time": neither of the two published equations has a longer time than the one that decides
pub decides-longer : (s : Tasks) (i : ℕ) → NoLater (time_of Elsewhere s i) (time_of (decides Published s i) s i) × NoLater (time_of Itself s i) (time_of (decides Published s i) s i)
unfolding decides
decides-longer s i =
    let a = time_of Elsewhere s i in
    let b = time_of Itself s i in
    subst (λ (n : ℕ). NoLater a n × NoLater b n) (sym (picked-time s i (is_longer a b))) (longer-either a b)

-- "of equal ones struck elsewhere"
pub decides-equal : (s : Tasks) (i : ℕ) → time_of Elsewhere s i ≡ time_of Itself s i → decides Published s i ≡ Elsewhere
unfolding decides is_longer
decides-equal s i same = go (ℕ_discrete (time_of Elsewhere s i) 0)
  where
    go : Dec (time_of Elsewhere s i ≡ 0) → cond (is_longer (time_of Elsewhere s i) (time_of Itself s i)) Itself Elsewhere ≡ Elsewhere
    go (yes none) = simp (eq-eqb (time_of Elsewhere s i) 0 none)
    go (no some) = simp (ne_eqb (time_of Elsewhere s i) 0 some, ne_eqb (time_of Itself s i) 0 (λ z. some (same ∙ z)), le-ltb (time_of Elsewhere s i) (time_of Itself s i) (omega (arith, same)))

-- an equation that decides by a rule belongs to it
pub decides-rule : (rule : Rule) (s : Tasks) (i : ℕ) → rule_of (decides rule s i) ≡ rule
unfolding decides rule_of
decides-rule Published s i = go (is_longer (time_of Elsewhere s i) (time_of Itself s i))
  where
    go : (b : Bool) → rule_of (cond b Itself Elsewhere) ≡ Published
    go true = refl
    go false = refl
decides-rule Assured s i = refl

-- a number that is some, told as such
pub some-told : (n : ℕ) → unwrap_or (some_of n) 0 ≡ n
unfolding some_of
some-told n = go (ℕ_discrete n 0)
  where
    go : Dec (n ≡ 0) → unwrap_or (some_of n) 0 ≡ n
    go (yes none) = rw (eq-eqb n 0 none) (sym none)
    go (no some) = rw (ne_eqb n 0 some) refl

pub some-kept : (n : ℕ) → IfSome (some_of n) (λ time. 1 ≤ time)
unfolding some_of
some-kept n = go (ℕ_discrete n 0)
  where
    go : Dec (n ≡ 0) → IfSome (some_of n) (λ time. 1 ≤ time)
    go (yes none) = rw (eq-eqb n 0 none) tt
    go (no some) = rw (ne_eqb n 0 some) (omega arith)

-- what `time_of` answers where it is not refused: the equation's time
module _ (equation : Equation) (t : Table) (place : ℕ) {time : Option ℕ} (e : Ok time ≡ answered (solution_of equation t place).refusal (some_of (solution_of equation t place).time)) where
  pub solved-good : place_refusal (rule_of equation) t place ≡ 0
  unfolding solution_of
  solved-good = good_of _ _ e

  pub solved-time : time ≡ some_of (time_of equation (own_tasks t) place)
  unfolding solution_of
  solved-time = value_of _ _ e ∙ simp (eq-eqb (place_refusal (rule_of equation) t place) 0 solved-good)

  pub solved-some : IfSome time (λ n. 1 ≤ n)
  solved-some = subst (λ (o : Option ℕ). IfSome o (λ n. 1 ≤ n)) (sym solved-time) (some-kept (time_of equation (own_tasks t) place))

-- an equation that decides, beside its time
pub decided-is : (rule : Rule) (t : Table) (place : ℕ) (equation : Equation) {time : Option ℕ} → equation ≡ decides rule (own_tasks t) place → time ≡ some_of (time_of equation (own_tasks t) place)
    → record { equation = equation; time = time } ≡ decided_of rule t place
unfolding decided_of
decided-is rule t place equation decided its =
    ap₂ (λ (e : Equation) (o : Option ℕ). record { equation = e; time = o }) decided (its ∙ ap (λ (e : Equation). some_of (time_of e (own_tasks t) place)) decided)

-- the equation whose time is the longer of the two answered decides
pub longer-decides : (t : Table) (place : ℕ) {a b : Option ℕ} → a ≡ some_of (time_of Elsewhere (own_tasks t) place) → b ≡ some_of (time_of Itself (own_tasks t) place) → {x : Bool} → is_longer (unwrap_or a 0) (unwrap_or b 0) ≡ x
    → cond x Itself Elsewhere ≡ decides Published (own_tasks t) place
unfolding decides
longer-decides t place elsewhere itself is =
    ap (λ (x : Bool). cond x Itself Elsewhere)
    (sym is ∙ ap₂ is_longer (ap (λ (o : Option ℕ). unwrap_or o 0) elsewhere ∙ some-told _) (ap (λ (o : Option ℕ). unwrap_or o 0) itself ∙ some-told _))
