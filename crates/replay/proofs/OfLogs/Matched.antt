-- How far a record shows what the machine does: tick by tick, what the number of matching ticks says, and the three cases of the answer. Assumes nothing.
use Rattle.std.proofs.Common.{◌≡◌, ℕ, zero, suc, ◌+◌, ◌*◌, ◌/◌, ◌<◌, ◌≤◌, List, [], ◌∷◌, length, get_or, sym, refl, ap, ◌∙◌, not-suc-le-zero, arith, eq-eqb, ne_eqb}
use native.Mathlib.Decide.{ℕ_discrete}
use Rattle.replay.specs.declared.Machine.{Machine}
use Rattle.replay.specs.declared.Checked.{Checked}
use Rattle.replay.specs.declared.Checked.TheVariants.{Refused, Accepted, Differs}
use Rattle.replay.specs.Ticks.Machines.{tick}
use Rattle.replay.specs.Logs.Positions.{releases_at}
use Rattle.replay.specs.Logs.Shown.{log_in, shown, matching}
use Rattle.replay.specs.Logs.Answers.{compared}
use Rattle.replay.specs.Logs.Totals.{machine_at}
use Rattle.replay.proofs.OfLogs.History.{releases-shift, machine-shift}

-- the first tick of a record decides whether any is counted
module _ (m : Machine) (r f ran : ℕ) (supplied : List ℕ) where
  pub more-match : ran ≡ shown m r → matching m (r ∷ f ∷ ran ∷ supplied) ≡ matching (tick m r f) supplied + 1
  unfolding matching
  more-match same = simp (eq-eqb ran (shown m r) same)

  pub none-match : (ran ≡ shown m r → ⊥) → matching m (r ∷ f ∷ ran ∷ supplied) ≡ 0
  unfolding matching
  none-match other = simp (ne_eqb ran (shown m r) other)

-- the byte that the tick at a time shows, and the one that it must show, the machine having gone over the log before it
abbrev pub ran_at : List ℕ → ℕ → ℕ
ran_at supplied time = get_or supplied (3 * time + 2) 0

abbrev pub shown_at : Machine → List ℕ → ℕ → ℕ
shown_at m supplied time = shown (machine_at m (log_in supplied) time) (releases_at (log_in supplied) time)

-- a tick shows what request 1's rules say
abbrev pub Shows : Machine → List ℕ → ℕ → Type 0
Shows m supplied time = ran_at supplied time ≡ shown_at m supplied time

module _ (m : Machine) (r f ran : ℕ) (supplied : List ℕ) where
  ran-shift : (time : ℕ) → ran_at (r ∷ f ∷ ran ∷ supplied) (suc time) ≡ ran_at supplied time
  ran-shift time =
      let thrice : 3 * suc time + 2 ≡ suc (suc (suc (3 * time + 2))) = omega arith in
      ap (λ (n : ℕ). get_or (r ∷ f ∷ ran ∷ supplied) n 0) thrice

  shown-shift : (time : ℕ) → shown_at m (r ∷ f ∷ ran ∷ supplied) (suc time) ≡ shown_at (tick m r f) supplied time
  unfolding log_in
  shown-shift time = λ i. shown (machine-shift r f (log_in supplied) m time i) (releases-shift r f (log_in supplied) time i)

  shown-zero : shown_at m (r ∷ f ∷ ran ∷ supplied) 0 ≡ shown m r
  unfolding log_in machine_at releases_at
  shown-zero = refl

-- no more ticks match than there are
pub match-at-most : (m : Machine) (supplied : List ℕ) → matching m supplied ≤ length supplied / 3
unfolding matching
match-at-most m [] = omega arith
match-at-most m (r ∷ []) = omega arith
match-at-most m (r ∷ f ∷ []) = omega arith
match-at-most m (r ∷ f ∷ ran ∷ supplied) = go (ℕ_discrete ran (shown m r)) (match-at-most (tick m r f) supplied)
  where
    go : Dec (ran ≡ shown m r) → matching (tick m r f) supplied ≤ length supplied / 3 → matching m (r ∷ f ∷ ran ∷ supplied) ≤ length (r ∷ f ∷ ran ∷ supplied) / 3
    go (yes same) rest = omega (arith, more-match m r f ran supplied same)
    go (no other) rest = omega (arith, none-match m r f ran supplied other)

-- each tick that is counted shows it
pub match-same : (m : Machine) (supplied : List ℕ) (time : ℕ) → time < matching m supplied → Shows m supplied time
unfolding matching
match-same m [] time below = absurd (not-suc-le-zero below)
match-same m (r ∷ []) time below = absurd (not-suc-le-zero below)
match-same m (r ∷ f ∷ []) time below = absurd (not-suc-le-zero below)
match-same m (r ∷ f ∷ ran ∷ supplied) time below = go (ℕ_discrete ran (shown m r)) time below (match-same (tick m r f) supplied)
  where
    go : Dec (ran ≡ shown m r) → (time : ℕ) → time < matching m (r ∷ f ∷ ran ∷ supplied) → ((t : ℕ) → t < matching (tick m r f) supplied → Shows (tick m r f) supplied t) → Shows m (r ∷ f ∷ ran ∷ supplied) time
    go (no other) time below rest = absurd (omega (arith, none-match m r f ran supplied other))
    go (yes same) zero below rest = same ∙ sym (shown-zero m r f ran supplied)
    go (yes same) (suc time) below rest = ran-shift m r f ran supplied time ∙ rest time (omega (arith, more-match m r f ran supplied same)) ∙ sym (shown-shift m r f ran supplied time)

-- and the one after them does not
pub match-other : (m : Machine) (supplied : List ℕ) → matching m supplied < length supplied / 3 → Shows m supplied (matching m supplied) → ⊥
match-other m [] more = absurd (omega arith)
match-other m (r ∷ []) more = absurd (omega arith)
match-other m (r ∷ f ∷ []) more = absurd (omega arith)
match-other m (r ∷ f ∷ ran ∷ supplied) more = go (ℕ_discrete ran (shown m r)) more (match-other (tick m r f) supplied)
  where
    go : Dec (ran ≡ shown m r) → matching m (r ∷ f ∷ ran ∷ supplied) < length (r ∷ f ∷ ran ∷ supplied) / 3 → (matching (tick m r f) supplied < length supplied / 3 → Shows (tick m r f) supplied (matching (tick m r f) supplied) → ⊥)
        → Shows m (r ∷ f ∷ ran ∷ supplied) (matching m (r ∷ f ∷ ran ∷ supplied)) → ⊥
    go (no other) more rest shows =
        let none = none-match m r f ran supplied other in
        other (sym (ap (ran_at (r ∷ f ∷ ran ∷ supplied)) none) ∙ shows ∙ ap (shown_at m (r ∷ f ∷ ran ∷ supplied)) none ∙ shown-zero m r f ran supplied)
    go (yes same) more rest shows =
        let next : matching m (r ∷ f ∷ ran ∷ supplied) ≡ suc (matching (tick m r f) supplied) = more-match m r f ran supplied same ∙ omega arith in
        rest (omega (arith, more-match m r f ran supplied same))
        (sym (ap (ran_at (r ∷ f ∷ ran ∷ supplied)) next ∙ ran-shift m r f ran supplied (matching (tick m r f) supplied)) ∙ shows ∙ ap (shown_at m (r ∷ f ∷ ran ∷ supplied)) next ∙ shown-shift m r f ran supplied (matching (tick m r f) supplied))

-- The three cases of an answer
module _ (refusal ticks same : ℕ) where
  pub compared-refused : (refusal ≡ 0 → ⊥) → compared refusal ticks same ≡ Refused refusal
  unfolding compared
  compared-refused broken = simp (ne_eqb refusal 0 broken)

  module _ (passed : refusal ≡ 0) where
    pub compared-accepted : same ≡ ticks → compared refusal ticks same ≡ Accepted
    unfolding compared
    compared-accepted all = simp (eq-eqb refusal 0 passed, eq-eqb same ticks all)

    pub compared-differs : (same ≡ ticks → ⊥) → compared refusal ticks same ≡ Differs same
    unfolding compared
    compared-differs some = simp (eq-eqb refusal 0 passed, ne_eqb same ticks some)

-- which case an answer is, and its number
unfoldable case_of : Checked → ℕ
case_of (Refused n) = 0
case_of Accepted = 1
case_of (Differs n) = 2

unfoldable number_of : Checked → ℕ
number_of (Refused n) = n
number_of Accepted = 0
number_of (Differs n) = n

module _ (refusal ticks same : ℕ) where
  pub accepted-only : compared refusal ticks same ≡ Accepted → (refusal ≡ 0) × (same ≡ ticks)
  unfolding case_of
  accepted-only e = go (ℕ_discrete refusal 0) (ℕ_discrete same ticks)
    where
      go : Dec (refusal ≡ 0) → Dec (same ≡ ticks) → (refusal ≡ 0) × (same ≡ ticks)
      go (yes passed) (yes all) = (passed, all)
      go (yes passed) (no some) = absurd (let h : ◌≡◌ {A = ℕ} 2 1 = ap case_of (sym (compared-differs refusal ticks same passed some) ∙ e) in omega arith)
      go (no broken) all = absurd (let h : ◌≡◌ {A = ℕ} 0 1 = ap case_of (sym (compared-refused refusal ticks same broken) ∙ e) in omega arith)

  pub differs-only : (k : ℕ) → compared refusal ticks same ≡ Differs k → (refusal ≡ 0) × (same ≡ k) × (same ≡ ticks → ⊥)
  unfolding case_of number_of
  differs-only k e = go (ℕ_discrete refusal 0) (ℕ_discrete same ticks)
    where
      go : Dec (refusal ≡ 0) → Dec (same ≡ ticks) → (refusal ≡ 0) × (same ≡ k) × (same ≡ ticks → ⊥)
      go (yes passed) (yes all) = absurd (let h : ◌≡◌ {A = ℕ} 1 2 = ap case_of (sym (compared-accepted refusal ticks same passed all) ∙ e) in omega arith)
      go (yes passed) (no some) = (passed, ap number_of (sym (compared-differs refusal ticks same passed some) ∙ e), some)
      go (no broken) all = absurd (let h : ◌≡◌ {A = ℕ} 0 2 = ap case_of (sym (compared-refused refusal ticks same broken) ∙ e) in omega arith)

  pub refused-only : (n : ℕ) → compared refusal ticks same ≡ Refused n → (refusal ≡ n) × (refusal ≡ 0 → ⊥)
  unfolding case_of number_of
  refused-only n e = go (ℕ_discrete refusal 0) (ℕ_discrete same ticks)
    where
      go : Dec (refusal ≡ 0) → Dec (same ≡ ticks) → (refusal ≡ n) × (refusal ≡ 0 → ⊥)
      go (yes passed) (yes all) = absurd (let h : ◌≡◌ {A = ℕ} 1 0 = ap case_of (sym (compared-accepted refusal ticks same passed all) ∙ e) in omega arith)
      go (yes passed) (no some) = absurd (let h : ◌≡◌ {A = ℕ} 2 0 = ap case_of (sym (compared-differs refusal ticks same passed some) ∙ e) in omega arith)
      go (no broken) all = (ap number_of (sym (compared-refused refusal ticks same broken) ∙ e), broken)
