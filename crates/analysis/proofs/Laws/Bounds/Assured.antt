-- A choice stays within the bounds of a good table for the assured times exactly if it is assured; and where a record misses its own backup none is. Assumes nothing.
use Prim.Native.Nat.{ℕ, ◌+◌, ◌*◌, ◌≤◌, ◌<◌}
use mathlib.Core.Path.{◌≡◌, refl, sym, ap, ap₂, ◌∙◌}
use mathlib.Core.Bool.{Bool, true, false, true≢false, cond, not, ◌&&◌, not-not}
use mathlib.Core.Logic.{inl}
use mathlib.Core.List.{List, []}
use native.Mathlib.Nat.{mul-le-mul_left}
use native.Mathlib.Decide.{dec_lt}
use native.Mathlib.Omega.{arith}
use borrow.Author.Tests.{ne_eqb, le-leb, lt-ltb, le-ltb}
use lib.Dec.{eqb, ltb}
use lib.ListN.{get_or}
use Rattle.places.proofs.Some.{some-found, some-where}
use Rattle.places.proofs.Summed.{sum-plus, sum-rises}
use Rattle.sheet.specs.declared.Table.{Table}
use Rattle.sheet.specs.Layout.{record_at}
use Rattle.sheet.specs.Rules.{table_refusal}
use Rattle.sheet.proofs.Cases.{good-table, good-at}
use Rattle.analysis.specs.Published.Equations.{is_between, asked_itself}
use Rattle.analysis.specs.declared.Rule.TheVariants.{Published, Assured}
use Rattle.analysis.specs.Common.Rounding.{up}
use Rattle.analysis.specs.Common.Tasks.{Tasks, tasks_of}
use Rattle.analysis.specs.Common.Backups.{others}
use Rattle.analysis.specs.Common.Entries.{is_late}
use Rattle.analysis.specs.Assured.Equation.{is_over, is_ahead, backup_ahead, asked_assured}
use Rattle.analysis.specs.Assured.Time.{unassured, assured}
use Rattle.analysis.specs.Common.Allowed.{Within}
use Rattle.analysis.specs.Bounds.Limits.{asked_with, asked_by, bears}
use Rattle.analysis.specs.Bounds.Found.{found_bounds}
use Rattle.analysis.specs.Bounds.Hopeless.{own_missed, hopeless}
use Rattle.analysis.specs.Bounds.Within.{below, below_limits, within_at, within_bounds}
use Rattle.analysis.proofs.Laws.Common.Rounding.{up-some, first-paid}
use Rattle.analysis.proofs.Laws.Bounds.Borne.{bears-easier, limit-kept, borne-below, within-each}
use Rattle.analysis.proofs.Laws.Assured.Raised.{ahead-most}
use Rattle.analysis.proofs.Laws.Assured.Asked.{ahead-kept, assured-time-asked}

-- a fault priority that is the priority asks no more with the task's own backup than the assured equation does
own-assured-least : (s : Tasks) (i q small large : ℕ) → 1 ≤ s.interval → 1 ≤ (s.at i).priority → q ≤ (s.at i).priority → small ≤ large → (s.at i).backup ≡ small → (L : ℕ) → 1 ≤ L
    → asked_by Published s i (s.at i).priority small L ≤ asked_by Assured s i q large L
unfolding asked_by asked_with asked_itself is_between asked_assured is_over others
own-assured-least s i q small large often some low less own L long =
    let split = sum-plus (λ k. cond (ltb (s.at i).priority (s.at k).priority) (up L (s.at k).period * (s.at k).cost) 0) (λ k. cond (ltb (s.at i).priority (s.at k).priority && ltb (s.at k).priority (s.at i).priority) ((1 + up L (s.at k).period) * (s.at k).cost) 0) s.count in
    rw (ne_eqb (s.at i).priority 0 (λ z. omega arith))
    (omega (arith, split, own, mul-le-mul_left (up L s.interval) less, first-paid (up L s.interval) small (up-some L s.interval often long), sum-rises s.count (λ k below. fewer k)))
  where
    once : ℕ → ℕ
    once k = up L (s.at k).period * (s.at k).cost

    more : ℕ → ℕ
    more k = (1 + up L (s.at k).period) * (s.at k).cost

    fewer : (k : ℕ) → cond (ltb (s.at i).priority (s.at k).priority) (once k) 0 + cond (ltb (s.at i).priority (s.at k).priority && ltb (s.at k).priority (s.at i).priority) (more k) 0
        ≤ cond (not (eqb k i) && ltb q (s.at k).priority) (once k) 0
    fewer k = go (dec_lt (s.at i).priority (s.at k).priority)
      where
        go : Dec ((s.at i).priority < (s.at k).priority) → cond (ltb (s.at i).priority (s.at k).priority) (once k) 0 + cond (ltb (s.at i).priority (s.at k).priority && ltb (s.at k).priority (s.at i).priority) (more k) 0
            ≤ cond (not (eqb k i) && ltb q (s.at k).priority) (once k) 0
        go (yes h) =
            rw (lt-ltb (s.at i).priority (s.at k).priority h, le-ltb (s.at k).priority (s.at i).priority (omega arith), ne_eqb k i (λ e. omega (arith, ap (λ (n : ℕ). (s.at n).priority) e)), lt-ltb q (s.at k).priority (omega arith)) (omega arith)
        go (no h) = rw (le-ltb (s.at i).priority (s.at k).priority (omega arith)) (omega arith)

module _ (t : Table) (good : table_refusal t ≡ 0) (choice : List ℕ) (allowed : Within t choice) where
  abbrev plain : Tasks
  plain = tasks_of t t.interval []

  abbrev chosen : Tasks
  chosen = tasks_of t t.interval choice

  module _ (place : ℕ) (below : place < t.count) where
    -- which is borne exactly if the record has an assured time
    pub bears-ahead : bears Assured plain place (get_or choice place 0) (backup_ahead chosen place) ≡ not (unassured chosen place)
    unfolding bears asked_by
    bears-ahead = ap (λ (n : ℕ). not (is_late (record_at t.records place).deadline n)) (sym (assured-time-asked t good choice allowed place below))

    within-unassured : not (within_at Assured (found_bounds Assured t) choice place) ≡ unassured chosen place
    unfolding within_at below_limits below found_bounds backup_ahead
    within-unassured =
        let high = (good-at t.count (record_at t.records) (good-table t good).records place below).priority.1 in
        let few = (good-table t good).count.1 in
        let narrow = le-leb (get_or choice place 0) 8 (omega (arith, (allowed place below).1)) in
        ap not (ap₂ ◌&&◌ narrow
        (ap₂ ltb (ahead-kept t good choice place below) (limit-kept t good Assured place (get_or choice place 0) below (allowed place below).1)
        ∙ borne-below t good Assured place (get_or choice place 0) (is_ahead chosen place)
        ∙ bears-ahead))
        ∙ not-not (unassured chosen place)

    -- one that misses its own backup has none: N is no smaller than that
    own-unassured : own_missed plain place ≡ true → unassured chosen place ≡ true
    unfolding own_missed
    own-unassured missed = go (unassured chosen place) refl
      where
        go : (b : Bool) → unassured chosen place ≡ b → b ≡ true
        go true is = refl
        go false is =
            let task = good-at t.count (record_at t.records) (good-table t good).records place below in
            let often : 1 ≤ t.interval = let some = (good-table t good).interval in omega arith in
            let borne-too = bears-easier Published Assured plain place (record_at t.records place).priority (get_or choice place 0) (record_at t.records place).backup (backup_ahead chosen place)
            (own-assured-least plain place (get_or choice place 0) _ _ often task.priority.0 (allowed place below).1 (ahead-most chosen place place below (inl refl)) refl) (bears-ahead ∙ ap not is) in
            absurd (true≢false (sym missed ∙ ap not borne-too))

  -- a choice stays within the bounds for the assured equation exactly if it is assured
  pub within-assured : within_bounds Assured (found_bounds Assured t) choice ≡ assured chosen
  unfolding assured
  within-assured = within-each t good Assured choice (unassured chosen) within-unassured

  -- where some record misses its own backup no choice is assured
  pub hopeless-unassured : hopeless t ≡ true → assured chosen ≡ false
  unfolding assured hopeless
  hopeless-unassured some =
      let found = some-where (own_missed plain) t.count some in
      ap not (some-found (unassured chosen) found.0 t.count found.1 (own-unassured found.0 found.1 found.2))
