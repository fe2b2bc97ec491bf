-- A core's tasks beside the whole sheet's with each q equal to p: they pass where the sheet does, and one core takes every record exactly if the sheet passes. Assumes nothing.
use Prim.Native.Nat.{ℕ, suc, ◌≤◌, ◌<◌}
use mathlib.Core.Path.{◌≡◌, refl, sym, ap, subst, ◌∙◌}
use mathlib.Core.Bool.{Bool, true}
use mathlib.Core.Logic.{◌↔◌, ⊎_elim}
use native.Mathlib.Nat.{eq-or-lt_of_le}
use native.Mathlib.Decide.{ℕ_discrete, dec_lt, dec_le}
use native.Mathlib.Omega.{arith}
use borrow.Author.Tests.{eq-eqb}
use lib.ListN.{length, get_or}
use Rattle.sheet.specs.declared.Record.{Record}
use Rattle.sheet.specs.declared.Table.{Table}
use Rattle.sheet.specs.Layout.{record_at}
use Rattle.sheet.specs.Rules.{table_refusal}
use Rattle.sheet.proofs.Cases.{good-table}
use Rattle.analysis.specs.Common.Tasks.{Tasks, tasks_of}
use Rattle.analysis.specs.Common.Columns.{priorities_of}
use Rattle.analysis.specs.Published.Response.{passes}
use Rattle.analysis.specs.Common.Entries.{own_tasks}
use Rattle.analysis.proofs.Laws.Common.Choice.{priority-at}
use Rattle.cores.specs.Renumbered.{picked, priority_among, renumbered, core_tasks, tasks_at}
use Rattle.cores.specs.FirstFit.{joins, still_pass, cores_before, core_of, fits_none}
use Rattle.cores.proofs.Picking.{picks, picked_all}
use Rattle.cores.proofs.Renumbering.{priorities-order}
use Rattle.cores.proofs.Fewer.{Fewer, fewer-pass}
use Rattle.cores.proofs.Trying.{distinct}
use Rattle.cores.proofs.Demands.{is_on, core-lowest, core-passes, all-fitted}
use Rattle.cores.proofs.FittedSoFar.{all_fit}

-- "the sheet .. with each q equal to p": under the choice of its own priorities
abbrev pub raised_tasks : Table → Tasks
raised_tasks t = tasks_of t t.interval (priorities_of t)

module _ (t : Table) (good : table_refusal t ≡ 0) where
  raised_at : (k : ℕ) → k < t.count → (raised_tasks t).fault k ≡ (record_at t.records k).priority
  raised_at k low = priority-at t (good-table t good).count.1 k low

  module _ (test : ℕ → Bool) (n : ℕ) (few : n ≤ t.count) where
    abbrev core : Tasks
    core = core_tasks (own_tasks t) test n

    abbrev place_of : ℕ → ℕ
    place_of j = get_or (picked test n) j 0

    abbrev old : ℕ → ℕ
    old j = (record_at t.records (place_of j)).priority

    order : (i j : ℕ) → i < core.count → j < core.count → old i < old j → (core.at i).priority < (core.at j).priority
    order = priorities-order (own_tasks t) test n (distinct t good n few)

    -- a higher priority on the core has a higher old priority
    order-back : (i j : ℕ) → i < core.count → j < core.count → (core.at i).priority < (core.at j).priority → old i < old j
    unfolding core_tasks tasks_at renumbered
    order-back i j low-i low-j lt = go (dec_lt (old i) (old j)) (ℕ_discrete (old i) (old j))
      where
        go : Dec (old i < old j) → Dec (old i ≡ old j) → old i < old j
        go (yes is) side = is
        go (no ge) (yes e) = absurd (omega (arith, lt, ap (priority_among (record_at t.records) test n) e))
        go (no ge) (no e) = absurd (omega (arith, lt, order j i low-j low-i (omega arith)))

    -- a core's tasks are some of the sheet's
    core-fewer : Fewer core (raised_tasks t) place_of
    unfolding core_tasks tasks_at renumbered
    core-fewer =
        let known = picks test n in
        record {
          places = record { within = λ j h. omega (arith, (known.holds j h).0); rises = known.rises };
          interval = refl;
          round = refl;
          share = refl;
          cost = λ j h. refl;
          backup = λ j h. refl;
          deadline = λ j h. refl;
          period = λ j h. refl;
          above = order-back;
          not-below = λ i j low-i low-j le. not-above i j low-i low-j le (dec_le (old i) (old j));
          raised = λ j h. refl;
          raised-there = λ j h. raised_at (place_of j) (omega (arith, (known.holds j h).0));
        }
      where
        not-above : (i j : ℕ) → i < core.count → j < core.count → (core.at i).priority ≤ (core.at j).priority → Dec (old i ≤ old j) → old i ≤ old j
        not-above i j low-i low-j le (yes is) = is
        not-above i j low-i low-j le (no above) = absurd (omega (arith, le, order j i low-j low-i (omega arith)))

    -- so they pass where the sheet does
    pub core-of-passing : passes (raised_tasks t) ≡ true → passes core ≡ true
    core-of-passing = fewer-pass core (raised_tasks t) place_of core-fewer

  -- all of the sheet's records on one core are the sheet
  module _ (test : ℕ → Bool) (on : (k : ℕ) → k < t.count → test k ≡ true) where
    abbrev whole : Tasks
    whole = core_tasks (own_tasks t) test t.count

    here : (k : ℕ) → k < t.count → get_or (picked test t.count) k 0 ≡ k
    here = (picked_all test t.count on).1

    size : length (picked test t.count) ≡ t.count
    size = (picked_all test t.count on).0

    task-here : (k : ℕ) → k < t.count → record_at t.records k ≡ record_at t.records (get_or (picked test t.count) k 0)
    task-here k low = ap (record_at t.records) (sym (here k low))

    order-here : (i j : ℕ) → i < t.count → j < t.count → (record_at t.records i).priority < (record_at t.records j).priority → (whole.at i).priority < (whole.at j).priority
    unfolding core_tasks tasks_at
    order-here i j low-i low-j lt =
        priorities-order (own_tasks t) test t.count (distinct t good t.count (omega arith)) i j (subst (λ (m : ℕ). i < m) (sym size) low-i) (subst (λ (m : ℕ). j < m) (sym size) low-j)
        (subst (λ (a : Record). a.priority < (record_at t.records (get_or (picked test t.count) j 0)).priority) (task-here i low-i)
        (subst (λ (b : Record). (record_at t.records i).priority < b.priority) (task-here j low-j) lt))

    whole-fewer : Fewer (raised_tasks t) whole (λ k. k)
    unfolding core_tasks tasks_at renumbered
    whole-fewer =
        record {
          places = record { within = λ j h. subst (λ (m : ℕ). j < m) (sym size) h; rises = λ i j lt h. lt };
          interval = refl;
          round = refl;
          share = refl;
          cost = λ j h. ap (λ (r : Record). r.cost) (task-here j h);
          backup = λ j h. ap (λ (r : Record). r.backup) (task-here j h);
          deadline = λ j h. ap (λ (r : Record). r.deadline) (task-here j h);
          period = λ j h. ap (λ (r : Record). r.period) (task-here j h);
          above = order-here;
          not-below = λ i j low-i low-j le. ⊎_elim (same i j low-i low-j) (λ lt. omega (arith, order-here i j low-i low-j lt)) (eq-or-lt_of_le le);
          raised = raised_at;
          raised-there = λ j h. refl;
        }
      where
        same : (i j : ℕ) → i < t.count → j < t.count → (record_at t.records i).priority ≡ (record_at t.records j).priority → (whole.at i).priority ≤ (whole.at j).priority
        same i j low-i low-j e =
            let alike = ap (priority_among (record_at t.records) test t.count)
            (sym (ap (λ (r : Record). r.priority) (task-here i low-i)) ∙ e ∙ ap (λ (r : Record). r.priority) (task-here j low-j)) in
            omega (arith, alike)

    pub sheet-of-passing : passes whole ≡ true → passes (raised_tasks t) ≡ true
    sheet-of-passing = fewer-pass (raised_tasks t) whole (λ k. k) whole-fewer

  -- where the sheet passes with each q equal to p, every record is on core 1, however many there are
  pub all-on-first : passes (raised_tasks t) ≡ true → (number : ℕ) → 1 ≤ number → (place : ℕ) → place < t.count → core_of (own_tasks t) number place ≡ 1
  unfolding still_pass
  all-on-first e number some place low =
      (core-lowest (own_tasks t) number place 1 (omega arith)).1
      (some, core-of-passing (joins (cores_before (own_tasks t) number place) place 1) (suc place) low e, λ k low-k high. absurd (omega arith))

  -- One core: no record fits none, and all are on core 1, exactly if the sheet passes with each q equal to p
  pub one-core : (fits_none (own_tasks t) 1 ≡ 0) ↔ (passes (raised_tasks t) ≡ true)
  one-core = (
    λ e. sheet-of-passing (is_on (own_tasks t) 1 1) (λ k low. eq-eqb _ 1 (first e k low)) (core-passes (own_tasks t) 1 1 (omega arith)),
    λ e. all_fit (own_tasks t) 1 (λ k low none. omega (arith, none, all-on-first e 1 (omega arith) k low)),
  )
    where
      first : fits_none (own_tasks t) 1 ≡ 0 → (k : ℕ) → k < t.count → core_of (own_tasks t) 1 k ≡ 1
      first e k low = go (core_of (own_tasks t) 1 k) refl (all-fitted (own_tasks t) 1 e k low)
        where
          go : (core : ℕ) → core_of (own_tasks t) 1 k ≡ core → (core_of (own_tasks t) 1 k ≡ 0 → ⊥) → core_of (own_tasks t) 1 k ≡ 1
          go core is some = let within = (core-lowest (own_tasks t) 1 k core (omega (arith, is, some))).0 is in omega (arith, is, within.0, some)
