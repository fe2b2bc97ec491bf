-- What `fq_grant` gives to the crate that answers, what it hands back in each of its cases, and that numbers past the count play no part. Assumes nothing.
use Prim.Native.Nat.{ℕ, ◌+◌, ◌*◌, ◌≤◌, ◌<◌}
use mathlib.Core.Path.{◌≡◌, refl, sym, ap, ◌∙◌, subst}
use mathlib.Core.Bool.{cond}
use mathlib.Core.List.{List}
use native.Mathlib.Decide.{dec_lt}
use native.Mathlib.Omega.{arith}
use borrow.Author.Tests.{eq-eqb, ne_eqb, lt-ltb, le-ltb}
use lib.Dec.{eqb, ltb}
use lib.IntN.{ℤ}
use lib.ListN.{length, get_or, set, replicate, get_or-eq_default}
use Rattle.places.specs.Places.{filled_below}
use Rattle.places.proofs.Filled.{length-filled, filled_at}
use Rattle.locks.specs.declared.Job.{Job}
use Rattle.locks.specs.declared.Request.{Request}
use Rattle.locks.specs.declared.Granting.{Granting}
use Rattle.locks.specs.Jobs.{no_job, job_at}
use Rattle.locks.proofs.Rearranged.{past-count}
use Rattle.fidhaqooban.specs.Numbers.{answer_of, number_at}
use Rattle.fidhaqooban.specs.Locking.{given_job, given_starts, given_resources, granting_of, lock_refusal, lock_number, lock_left}
use Rattle.fidhaqooban.proofs.Lent.{asked-refused, no_room, given}

-- eight filled places hold nothing of what was there
pub eight-filled : {A : Type 0} (each : ℕ → A) (a b : A) → filled_below each 8 (replicate 8 a) ≡ filled_below each 8 (replicate 8 b)
unfolding filled_below
eight-filled each a b = refl

-- the answer and the output of a call
abbrev pub Locked : Granting → List ℤ → ℤ → List ℤ → Type 0
Locked granting margin answer left = (answer ≡ lock_number granting margin) × (left ≡ lock_left granting margin)

module _ (g asked : Granting) (is : g ≡ asked) (margin : List ℤ) where
  -- a refused request decides
  pub lock-refused : (g.refusal ≡ 0 → ⊥) → Locked asked margin (answer_of g.refusal 0) margin
  unfolding lock_number lock_left lock_refusal
  lock-refused broken =
      subst (λ (x : Granting). Locked x margin (answer_of g.refusal 0) margin) is
      (asked-refused g.refusal (eqb (length margin) 0) (cond g.granted 1 0) margin (set margin 0 g.margin) broken)

  module _ (fine : g.refusal ≡ 0) where
    -- then 11, where the output has no room
    pub lock-no-room : length margin ≡ 0 → Locked asked margin (answer_of 11 0) margin
    unfolding lock_number lock_left lock_refusal
    lock-no-room empty =
        subst (λ (x : Granting). Locked x margin (answer_of 11 0) margin) is
        (no_room g.refusal (eqb (length margin) 0) (cond g.granted 1 0) margin (set margin 0 g.margin) fine (eq-eqb (length margin) 0 empty))

    -- else 1 or 0, with the margin in the first place
    pub lock-given : (length margin ≡ 0 → ⊥) → Locked asked margin (answer_of 0 (cond g.granted 1 0)) (set margin 0 g.margin)
    unfolding lock_number lock_left lock_refusal
    lock-given some =
        subst (λ (x : Granting). Locked x margin (answer_of 0 (cond g.granted 1 0)) (set margin 0 g.margin)) is
        (given g.refusal (eqb (length margin) 0) (cond g.granted 1 0) margin (set margin 0 g.margin) fine (ne_eqb (length margin) 0 some))

-- the job that the numbers give at a place, and none from the eighth place on
given-at : (starts uses : List ℕ) (place : ℕ) → job_at (filled_below (given_job starts uses) 8 (replicate 8 no_job)) place ≡ cond (ltb place 8) (given_job starts uses place) no_job
unfolding job_at
given-at starts uses place = go (dec_lt place 8)
  where
    go : Dec (place < 8) → get_or (filled_below (given_job starts uses) 8 (replicate 8 no_job)) place no_job ≡ cond (ltb place 8) (given_job starts uses place) no_job
    go (yes h) = rw (lt-ltb place 8 h) (filled_at (given_job starts uses) 8 (replicate 8 no_job) no_job (omega arith) place h)
    go (no h) =
        let past : length (filled_below (given_job starts uses) 8 (replicate 8 no_job)) ≤ place = omega (arith, length-filled (given_job starts uses) 8 (replicate 8 no_job)) in
        rw (le-ltb place 8 (omega arith)) (get_or-eq_default (filled_below (given_job starts uses) 8 (replicate 8 no_job)) no_job past)

-- "those past the count ignored": numbers that agree below the count, two a job and one for what it uses, get the same answer
pub numbers-past-count : (period count : ℕ) (starts starts' uses uses' resources : List ℕ) (request : Request)
    → ((k : ℕ) → k < 2 * count → number_at starts k ≡ number_at starts' k) → ((k : ℕ) → k < count → number_at uses k ≡ number_at uses' k)
    → granting_of period count starts uses resources request ≡ granting_of period count starts' uses' resources request
unfolding granting_of given_starts given_job
numbers-past-count period count starts starts' uses uses' resources request same used =
    past-count (given_starts period count starts uses) (given_starts period count starts' uses') refl refl
    (λ place below. given-at starts' uses' place ∙ ap (λ (job : Job). cond (ltb place 8) job no_job) (sym (agree place below)) ∙ sym (given-at starts uses place))
    (given_resources resources) request
  where
    agree : (place : ℕ) → place < count → given_job starts uses place ≡ given_job starts' uses' place
    agree place below = each (same (2 * place) (omega arith)) (same (2 * place + 1) (omega arith)) (used place below)
      where
        each : number_at starts (2 * place) ≡ number_at starts' (2 * place) → number_at starts (2 * place + 1) ≡ number_at starts' (2 * place + 1) → number_at uses place ≡ number_at uses' place → given_job starts uses place ≡ given_job starts' uses' place
        each a b c i = record { offset = a i; length = b i; uses = c i }
