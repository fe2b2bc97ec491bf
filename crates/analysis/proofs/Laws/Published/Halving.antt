-- Passing is kept when the interval grows, so that the least interval is found by halving what lies between one that fails and one that passes. Assumes nothing.
use Prim.Native.Nat.{ℕ, suc, ◌+◌, ◌≤◌, ◌<◌}
use mathlib.Core.Path.{◌≡◌, refl, sym, ◌∙◌}
use mathlib.Core.Bool.{Bool, true, false, true≢false}
use mathlib.Core.List.{List}
use native.Mathlib.Omega.{arith}
use Rattle.places.specs.Search.{first_from}
use Rattle.places.proofs.Search.{Fails, first_found, first-none}
use Rattle.sheet.specs.declared.Table.{Table}
use Rattle.sheet.specs.Layout.{record_at}
use Rattle.analysis.specs.Common.Tasks.{tasks_of}
use Rattle.analysis.specs.Published.Response.{response_time, passes}
use Rattle.analysis.proofs.Laws.Common.Verdicts.{on-time-within, within-on-time}
use Rattle.analysis.proofs.Laws.Published.Easier.{falls-with-interval}
use Rattle.analysis.proofs.Demands.{passes-exactly}

-- a test that holds at a number holds at every larger one
abbrev pub Kept : (ℕ → Bool) → Type 0
Kept test = (small large : ℕ) → 1 ≤ small → small ≤ large → test small ≡ true → test large ≡ true

-- a table that passes at an interval passes at a larger one
pub passing_kept : (t : Table) (choice : List ℕ) → Kept (λ interval. passes (tasks_of t interval choice))
unfolding response_time
passing_kept t choice short long some less is =
    (passes-exactly (tasks_of t long choice)).1 (λ i below.
    let before = on-time-within (record_at t.records i).deadline _ ((passes-exactly (tasks_of t short choice)).0 is i below) in
    let after = falls-with-interval t choice i 65535 short long some less before.0 in
    within-on-time (record_at t.records i).deadline _ after.0 (omega arith))

-- the test fails from 1 on up to one number and at it, and holds at a larger one, unless that is the end
pub record Between (test : ℕ → Bool) (end fails holds : ℕ) : Type 0 where
  pub apart : (1 ≤ fails) × (fails < holds) × (holds ≤ end)
  pub below : Fails test 1 (suc fails)
  pub above : holds < end → test holds ≡ true

module _ (test : ℕ → Bool) (kept : Kept test) (end fails holds : ℕ) (between : Between test end fails holds) (middle : ℕ) (over : fails < middle) (under : middle < holds) where
  pub half-holds : test middle ≡ true → Between test end fails middle
  half-holds is = record { apart = (between.apart.0, over, omega (arith, between.apart.2)); below = between.below; above = λ h. is }

  pub half-fails : test middle ≡ false → Between test end middle holds
  half-fails is =
      record {
        apart = (omega (arith, between.apart.0), under, between.apart.2);
        below = λ k low high. go k low high (test k) refl;
        above = between.above;
      }
    where
      go : (k : ℕ) → 1 ≤ k → k < suc middle → (b : Bool) → test k ≡ b → test k ≡ false
      go k low high false e = e
      go k low high true e = absurd (true≢false (sym (kept k middle low (omega arith) e) ∙ is))

-- where nothing lies between, the first that holds is known: the larger one, or none where that is the end
module _ (test : ℕ → Bool) (n fails holds : ℕ) (between : Between test (1 + n) fails holds) (next : holds ≤ suc fails) where
  pub halved-found : holds < 1 + n → first_from test 1 n ≡ holds
  halved-found low = first_found test n 1 holds (omega (arith, between.apart)) low (λ k from high. between.below k from (omega arith)) (between.above low)

  pub halved_none : holds ≡ 1 + n → first_from test 1 n ≡ 0
  halved_none all = first-none test n 1 (λ k low high. between.below k low (omega arith))
