-- The slack in the words of document 02, request 2, about an entry. Assumes nothing.
use Prim.Native.Nat.{ℕ, suc, ◌-◌, ◌≤◌}
use mathlib.Core.Path.{◌≡◌, refl, sym, ap, ◌∙◌}
use mathlib.Core.Logic.{◌↔◌}
use native.Mathlib.Decide.{ℕ_discrete, dec_le}
use native.Mathlib.Omega.{arith}
use borrow.Author.Tests.{eq-eqb, ne_eqb, le-ltb, lt-ltb}
use lib.IntN.{pos, negsuc, ◌-ℤ◌}
use Rattle.places.proofs.Difference.{difference-left, difference-missing}
use Rattle.analysis.specs.declared.Slack.{Slack}
use Rattle.analysis.specs.declared.Slack.TheVariants.{Figure, NoFigure}
use Rattle.analysis.specs.declared.Outcome.{Outcome}
use Rattle.analysis.specs.declared.Outcome.TheVariants.{OnTime, Late}
use Rattle.analysis.specs.Common.Tasks.{Tasks}
use Rattle.analysis.specs.Published.Response.{response_time}
use Rattle.analysis.specs.Common.Entries.{is_late, outcome_of, slack_of, entry_from}
use Rattle.analysis.specs.Published.Answers.{entry_of}
use Rattle.analysis.proofs.Demands.{Missing, missing-exactly}

-- an outcome and a slack beside it: no time at all, one past the deadline, one within it
data Is (deadline time : ℕ) : Outcome → Slack → Type 0 where
  none : Is deadline time Late NoFigure
  past : Is deadline time Late (Figure (negsuc (time - suc deadline)))
  within : 1 ≤ time → time ≤ deadline → Is deadline time (OnTime time) (Figure (pos (deadline - time)))

entry-is : (deadline time : ℕ) → Is deadline time (outcome_of deadline time) (slack_of deadline time)
unfolding outcome_of slack_of is_late
entry-is deadline time = go (ℕ_discrete time 0) (dec_le time deadline)
  where
    go : Dec (time ≡ 0) → Dec (time ≤ deadline) → Is deadline time (outcome_of deadline time) (slack_of deadline time)
    go (yes z) side = rw (eq-eqb time 0 z) none
    go (no z) (yes h) = rw (ne_eqb time 0 z, le-ltb deadline time h, difference-left deadline time h) (within (omega arith) h)
    go (no z) (no h) = rw (ne_eqb time 0 z, lt-ltb deadline time (omega arith), difference-missing deadline time (omega arith)) past

-- there is no figure exactly where there is no time
pub no-figure-exactly : (deadline time : ℕ) → ((entry_from deadline time).slack ≡ NoFigure) ↔ (time ≡ 0)
unfolding entry_from slack_of
no-figure-exactly deadline time = (λ e. go (ℕ_discrete time 0) e, λ z. simp z)
  where
    go : Dec (time ≡ 0) → (entry_from deadline time).slack ≡ NoFigure → time ≡ 0
    go (yes z) e = z
    go (no p) e = absurd (let figure : Figure (pos deadline -ℤ pos time) ≡ NoFigure = sym (simp (ne_eqb time 0 p)) ∙ e in let z : ◌≡◌ {A = ℕ} 0 1 = cc in omega arith)

-- "Where no value exists within 65,535 there is no figure", and only there: a value at 65,535 itself has one, and the next number counts no more
pub figure-none : (s : Tasks) (i : ℕ) → ((entry_of s i).slack ≡ NoFigure) ↔ Missing 65535 s i
unfolding entry_of response_time
figure-none s i =
    let figure = no-figure-exactly (s.at i).deadline (response_time s i) in
    let missing = missing-exactly 65535 s i in
    (λ e. missing.0 (figure.0 e), λ m. figure.1 (missing.1 m))

-- a slack that "is negative or has no figure"
abbrev pub NegativeOrNone : Slack → Type 0
NegativeOrNone (Figure (pos ticks)) = ⊥
NegativeOrNone (Figure (negsuc ticks)) = Unit
NegativeOrNone NoFigure = Unit

-- "A task is late exactly if its slack is negative or has no figure"
pub late-exactly : (deadline time : ℕ) → ((entry_from deadline time).outcome ≡ Late) ↔ NegativeOrNone (entry_from deadline time).slack
unfolding entry_from
late-exactly deadline time = go (entry-is deadline time)
  where
    go : {o : Outcome} {l : Slack} → Is deadline time o l → (o ≡ Late) ↔ NegativeOrNone l
    go none = (λ e. tt, λ n. refl)
    go past = (λ e. tt, λ n. refl)
    go (within some h) = (λ e. absurd (let z : ◌≡◌ {A = ℕ} 0 1 = cc in omega arith), λ n. absurd n)

-- "zero at an exact fit", and only there
pub zero-exactly : (deadline time : ℕ) → ((entry_from deadline time).slack ≡ Figure (pos 0)) ↔ ((1 ≤ time) × (time ≡ deadline))
unfolding entry_from slack_of
zero-exactly deadline time = (λ e. go (entry-is deadline time) e, λ h. rw (ne_eqb time 0 (λ z. omega arith), difference-left deadline time (omega arith)) (ap (λ (n : ℕ). Figure (pos n)) (omega arith)))
  where
    go : {o : Outcome} {l : Slack} → Is deadline time o l → l ≡ Figure (pos 0) → (1 ≤ time) × (time ≡ deadline)
    go none e = absurd (let z : ◌≡◌ {A = ℕ} 0 1 = cc in omega arith)
    go past e = absurd (let z : ◌≡◌ {A = ℕ} 0 1 = cc in omega arith)
    go (within some h) e = let left : deadline - time ≡ 0 = cc in (some, omega arith)
