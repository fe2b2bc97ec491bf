-- Two parts of a log one after the other: the machine, the refusal and the answer. Assumes nothing.
use Rattle.std.proofs.Common.{◌≡◌, ℕ, ◌%◌, List, [], ◌∷◌, ◌++◌, length, sym, refl, ap, ◌∙◌, arith, length-append}
use native.Mathlib.Decide.{ℕ_discrete}
use Rattle.places.specs.Refusals.{or_else}
use Rattle.places.proofs.Refusals.{next-of, else-joined}
use Rattle.replay.specs.declared.Machine.{Machine}
use Rattle.replay.specs.Ticks.Machines.{tick}
use Rattle.replay.specs.Logs.Over.{ran_over}
use Rattle.replay.specs.Logs.Rules.{tick_refusal, ticks_refusal, log_refusal}
use Rattle.replay.proofs.OfLogs.Going.{odd_refused, even-ticks}

pub ran-joined : (m : Machine) (a b : List ℕ) → length a % 2 ≡ 0 → ran_over m (a ++ b) ≡ ran_over (ran_over m a) b
unfolding ran_over
ran-joined m [] b even = refl
ran-joined m (r ∷ []) b even = absurd (omega arith)
ran-joined m (r ∷ f ∷ a) b even = ran-joined (tick m r f) a b (omega arith)

pub ticks-joined : (m : Machine) (a b : List ℕ) → length a % 2 ≡ 0 → ticks_refusal m (a ++ b) ≡ or_else (ticks_refusal m a) (ticks_refusal (ran_over m a) b)
unfolding ticks_refusal ran_over
ticks-joined m [] b even = sym (next-of _ refl)
ticks-joined m (r ∷ []) b even = absurd (omega arith)
ticks-joined m (r ∷ f ∷ a) b even =
    ap (or_else (tick_refusal m r f)) (ticks-joined (tick m r f) a b (omega arith))
    ∙ sym (else-joined (tick_refusal m r f) (ticks_refusal (tick m r f) a) (ticks_refusal (ran_over (tick m r f) a) b))

module _ (m : Machine) where
  -- a part that is accepted has an even length, and each of its ticks keeps the rules
  pub accepted : (log : List ℕ) → log_refusal m log ≡ 0 → (length log % 2 ≡ 0) × (ticks_refusal m log ≡ 0)
  accepted log passed = go (ℕ_discrete (length log % 2) 0)
    where
      go : Dec (length log % 2 ≡ 0) → (length log % 2 ≡ 0) × (ticks_refusal m log ≡ 0)
      go (yes even) = (even, sym (even-ticks m log even) ∙ passed)
      go (no odd) = absurd (let e = odd_refused m log odd in omega arith)

  module _ (a b : List ℕ) (even : length a % 2 ≡ 0) where
    odd-too : (length b % 2 ≡ 0 → ⊥) → length (a ++ b) % 2 ≡ 0 → ⊥
    odd-too odd e = odd (omega (arith, length-append a b))

    pub refusal-joined : ticks_refusal m a ≡ 0 → log_refusal m (a ++ b) ≡ log_refusal (ran_over m a) b
    refusal-joined passed = go (ℕ_discrete (length b % 2) 0)
      where
        go : Dec (length b % 2 ≡ 0) → log_refusal m (a ++ b) ≡ log_refusal (ran_over m a) b
        go (yes e) = even-ticks m (a ++ b) (omega (arith, length-append a b)) ∙ ticks-joined m a b even ∙ next-of _ passed ∙ sym (even-ticks (ran_over m a) b e)
        go (no odd) = odd_refused m (a ++ b) (odd-too odd) ∙ sym (odd_refused (ran_over m a) b odd)
