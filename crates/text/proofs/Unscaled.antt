-- Figures that a scale makes a good table of: the table's tasks are the figures' own in longer ticks, so that the law of larger numbers speaks of what is read. Assumes nothing.
use Prim.Native.Nat.{ℕ, zero, suc, ◌/◌, ◌%◌, ◌≤◌, ◌<◌, min, max}
use mathlib.Core.Path.{◌≡◌, refl, sym, ap, ap₂, ◌∙◌, subst, fun_ext}
use mathlib.Core.Bool.{Bool, true, false, cond, not, ◌&&◌, ◌||◌}
use mathlib.Core.Logic.{◌⊎◌, inl, inr}
use mathlib.Core.List.{List}
use native.Mathlib.Nat.{suc-ne-zero}
use native.Mathlib.Decide.{ℕ_discrete}
use native.Mathlib.Omega.{arith}
use borrow.Author.Tests.{eq-eqb, ne_eqb, eqb-true, eqb-false, ltb-false}
use lib.Dec.{eqb, ltb}
use lib.ListN.{get_or, set, replicate}
use Rattle.places.specs.Places.{filled_below, some_below}
use Rattle.places.proofs.Agree.{some-agree}
use Rattle.places.proofs.Filled.{filled_at}
use Rattle.places.proofs.Tells.{neither, both_true}
use Rattle.sheet.specs.declared.Record.{Record}
use Rattle.sheet.specs.declared.Table.{Table}
use Rattle.sheet.specs.Layout.{no_record, record_at, is_whole, table_edition}
use Rattle.sheet.specs.Rules.{table_refusal}
use Rattle.sheet.proofs.Cases.{good-table, good-at}
use Rattle.sheet.proofs.Editions.{edition-low, whole-old, right-share}
use Rattle.lines.specs.declared.Task.{Task}
use Rattle.lines.specs.declared.Figures.{Figures}
use Rattle.analysis.specs.Common.Rounding.{up as rounded}
use Rattle.analysis.specs.Common.Tasks.{Tasks}
use Rattle.analysis.specs.Common.Entries.{is_late}
use Rattle.analysis.specs.Common.Search.{least_within}
use Rattle.analysis.specs.Common.Backups.{backup_elsewhere, backup_from_fault, largest_backup}
use Rattle.longer_ticks.specs.Scaled.{scaled_record, scaled_part, scaled_tasks, Scalable, NoneLate}
use Rattle.analysis.specs.Published.Equations.{is_between, asked_elsewhere, struck_elsewhere, asked_itself, struck_itself}
use Rattle.analysis.specs.Published.Response.{time_elsewhere, time_itself, response_within, passes}
use Rattle.analysis.specs.Assured.Equation.{is_over, is_ahead, backup_ahead, asked_assured, assured_equation}
use Rattle.analysis.specs.Assured.Time.{assured_within, unassured, assured}
use Rattle.analysis.proofs.Laws.Common.Rounding.{up-taught}
use Rattle.analysis.proofs.Laws.Common.Supplier.{unshared}
use Rattle.analysis.proofs.Laws.Common.Choice.{own_at}
use Rattle.analysis.proofs.Laws.Common.Reordered.{SameTasks}
use Rattle.analysis.proofs.Laws.Published.Reordered.{passes-held}
use Rattle.analysis.proofs.Laws.Assured.Reordered.{assured-time-held}
use Rattle.longer_ticks.proofs.Demands.{scaled-passes, scaled-assured}
use Rattle.text.specs.declared.Fitted.{Fitted}
use Rattle.text.specs.Scaling.{up, least_up, number_at, least_of, is_high, task_of, least_first, least_below, high_below, least_scale, scaled_task, records_below, share_scale, scaled_table, divides, not_scaled, judged, scaled_fit, scaled_by}
use Rattle.text.specs.Unscaled.{unscaled_record, unscaled_tasks, table_tasks}
use Rattle.text.proofs.Scales.{least-up-is, least-down-is}

-- what figures are known for that a scale makes a good table of
pub record Fits (figures : Figures) (scale : ℕ) : Type 0 where
  pub some : 0 < scale
  pub low : high_below figures.tasks (min figures.count 8) ≡ false
  pub least : least_below (least_first figures) figures.tasks (min figures.count 8) ≤ scale
  pub round : figures.round % share_scale figures scale ≡ 0
  pub share : figures.share % share_scale figures scale ≡ 0
  pub good : table_refusal (scaled_table figures scale) ≡ 0
  pub table : (scaled_by figures scale).table ≡ scaled_table figures scale

-- one test of a chain was passed
passed-by : (b : Bool) (f g : Fitted) → (f.refusal ≡ 0 → ⊥) → (cond b f g).refusal ≡ 0 → (b ≡ false) × (g.refusal ≡ 0)
passed-by true f g broken e = absurd (broken e)
passed-by false f g broken e = (refl, e)

held_by : (b : Bool) (f g : Fitted) → (g.refusal ≡ 0 → ⊥) → (cond b f g).refusal ≡ 0 → b ≡ true
held_by true f g broken e = refl
held_by false f g broken e = absurd (broken e)

-- a least scale that is not 0 is that of numbers whose priorities fit
least-there : (b : Bool) (n : ℕ) → (cond b 0 n ≡ 0 → ⊥) → (b ≡ false) × (cond b 0 n ≡ n)
least-there true n some = absurd (some refl)
least-there false n some = (refl, refl)

judged-good : (t : Table) → (judged t).refusal ≡ 0 → table_refusal t ≡ 0
unfolding judged
judged-good t e = go (ℕ_discrete (table_refusal t) 0)
  where
    go : Dec (table_refusal t ≡ 0) → table_refusal t ≡ 0
    go (yes z) = z
    go (no other) = absurd (other (simp (ne_eqb (table_refusal t) 0 other) at e))

pub fits-of : (figures : Figures) (scale : ℕ) → (scaled_by figures scale).refusal ≡ 0 → Fits figures scale
unfolding scaled_by scaled_fit divides judged least_scale
fits-of figures scale e =
    let first = passed-by (eqb scale 0) (not_scaled 46 0) _ (suc-ne-zero 45) e in
    let second = passed-by (eqb (least_scale figures) 0 || ltb scale (least_scale figures)) (not_scaled 31 (least_scale figures)) _ (suc-ne-zero 30) first.1 in
    let there = neither (eqb (least_scale figures) 0) (ltb scale (least_scale figures)) second.0 in
    let least = least-there (high_below figures.tasks (min figures.count 8)) (least_below (least_first figures) figures.tasks (min figures.count 8)) (eqb-false (least_scale figures) 0 there.0) in
    let whole = held_by (divides figures scale) (judged (scaled_table figures scale)) (not_scaled 45 0) (suc-ne-zero 44) second.1 in
    let both = both_true (eqb (figures.round % share_scale figures scale) 0) (eqb (figures.share % share_scale figures scale) 0) whole in
    let good = judged-good (scaled_table figures scale) (simp whole at second.1) in
    record {
      some = omega (arith, eqb-false scale 0 first.0);
      low = least.0;
      least = omega (arith, least.1, ltb-false scale (least_scale figures) there.1);
      round = eqb-true (figures.round % share_scale figures scale) 0 both.0;
      share = eqb-true (figures.share % share_scale figures scale) 0 both.1;
      good = good;
      table = simp (first.0, second.0, whole, good);
    }

-- a least scale is no less than its first and than each task's
least_first_lem : (first : ℕ) (tasks : List Task) (n : ℕ) → first ≤ least_below first tasks n
unfolding least_below
least_first_lem first tasks zero = omega arith
least_first_lem first tasks (suc n) = omega (arith, least_first_lem first tasks n)

least-each : (first : ℕ) (tasks : List Task) (n k : ℕ) → k < n → least_of (task_of tasks k) ≤ least_below first tasks n
unfolding least_below
least-each first tasks zero k below = absurd (omega arith)
least-each first tasks (suc n) k below = go (least-each first tasks n k) (ℕ_discrete k n)
  where
    go : (k < n → least_of (task_of tasks k) ≤ least_below first tasks n) → Dec (k ≡ n) → least_of (task_of tasks k) ≤ max (least_below first tasks n) (least_of (task_of tasks n))
    go earlier (yes e) = omega (arith, ap (λ (j : ℕ). least_of (task_of tasks j)) e)
    go earlier (no other) = omega (arith, earlier (omega arith))

none-high : (tasks : List Task) (n k : ℕ) → k < n → high_below tasks n ≡ false → is_high (task_of tasks k) ≡ false
unfolding high_below
none-high tasks zero k below e = absurd (omega arith)
none-high tasks (suc n) k below e =
    let both = neither (high_below tasks n) (is_high (task_of tasks n)) e in
    go (λ less. none-high tasks n k less both.0) both.1 (ℕ_discrete k n)
  where
    go : (k < n → is_high (task_of tasks k) ≡ false) → is_high (task_of tasks n) ≡ false → Dec (k ≡ n) → is_high (task_of tasks k) ≡ false
    go earlier here (yes same) = ap (λ (j : ℕ). is_high (task_of tasks j)) same ∙ here
    go earlier here (no other) = earlier (omega arith)

-- both round up alike
up_same : (n scale : ℕ) → 0 < scale → up n scale ≡ rounded n scale
unfolding up
up_same n scale some = sym (up-taught n scale some)

cost-fits : (n scale : ℕ) → 0 < scale → least_up n ≤ scale → min (up n scale) 65535 ≡ rounded n scale
cost-fits n scale some least = omega (arith, (least-up-is n scale some).0 least, up_same n scale some)

-- a task whose least scale is no more than this one is scaled as the law's record
task-scaled : (task : Task) (scale : ℕ) → 0 < scale → least_of task ≤ scale → is_high task ≡ false → scaled_task task scale ≡ scaled_record scale (unscaled_record task)
unfolding scaled_task least_of is_high
task-scaled task scale some least low =
    let priorities = neither (ltb 15 (number_at task 0)) (ltb 15 (number_at task 1)) low in
    let p : min (number_at task 0) 15 ≡ number_at task 0 = omega (arith, ltb-false 15 (number_at task 0) priorities.0) in
    let q : min (number_at task 1) 15 ≡ number_at task 1 = omega (arith, ltb-false 15 (number_at task 1) priorities.1) in
    let cost = cost-fits (number_at task 2) scale some (omega arith) in
    let backup = cost-fits (number_at task 3) scale some (omega arith) in
    let deadline : min (number_at task 4 / scale) 65535 ≡ number_at task 4 / scale = omega (arith, (least-down-is (number_at task 4) scale some).0 (omega arith)) in
    let period : min (number_at task 5 / scale) 65535 ≡ number_at task 5 / scale = omega (arith, (least-down-is (number_at task 5) scale some).0 (omega arith)) in
    simp (p, q, cost, backup, deadline, period)

-- the records as a list that is filled
records-filled : (tasks : List Task) (scale n : ℕ) → records_below tasks scale n ≡ filled_below (λ k. scaled_task (task_of tasks k) scale) n (replicate 8 no_record)
unfolding records_below filled_below
records-filled tasks scale zero = refl
records-filled tasks scale (suc n) = ap (λ (l : List Record). set l n (scaled_task (task_of tasks n) scale)) (records-filled tasks scale n)

-- what K divides is rounded down to what it is rounded up to
round-fits : (n scale : ℕ) → 0 < scale → n % scale ≡ 0 → least_up n ≤ scale → min (n / scale) 65535 ≡ n / scale
unfolding up
round-fits n scale some even least =
    let is : up n scale ≡ n / scale = simp (eq-eqb (n % scale) 0 even) in
    omega (arith, (least-up-is n scale some).0 least, is)

-- the same tasks at the same places are assured alike
assured-same : (s held : Tasks) → SameTasks s held (λ k. k) → assured held ≡ assured s
unfolding assured
assured-same s held same =
    ap (λ (n : ℕ). not (some_below (unassured held) n)) same.count
    ∙ ap not (some-agree s.count (λ k h. ap₂ is_late (ap (λ (r : Record). r.deadline) (same.task k h)) (assured-time-held s held (λ j. j) same k h)))

-- the figures' tasks under any round and share
abbrev pub tasks_with : Figures → ℕ → ℕ → Tasks
tasks_with figures round share =
    record {
      count = figures.count;
      at = λ place. unscaled_record (task_of figures.tasks place);
      interval = figures.interval;
      round = round;
      share = share;
      fault = λ place. number_at (task_of figures.tasks place) 1;
    }

module _ (figures : Figures) (scale : ℕ) (fits : Fits figures scale) where
  abbrev table : Table
  table = scaled_table figures scale

  few : (1 ≤ figures.count) × (figures.count ≤ 8)
  unfolding scaled_table
  few = (good-table table fits.good).count

  all : min figures.count 8 ≡ figures.count
  all = omega (arith, few.1)

  record-at : (k : ℕ) → k < figures.count → record_at table.records k ≡ scaled_record scale (unscaled_record (task_of figures.tasks k))
  unfolding scaled_table record_at
  record-at k below =
      let room : min figures.count 8 ≤ 8 = omega arith in
      let under : k < min figures.count 8 = omega (arith, all) in
      let least : least_of (task_of figures.tasks k) ≤ scale = omega (arith, least-each (least_first figures) figures.tasks (min figures.count 8) k under, fits.least) in
      ap (λ (l : List Record). get_or l k no_record) (records-filled figures.tasks scale (min figures.count 8))
      ∙ filled_at (λ j. scaled_task (task_of figures.tasks j) scale) (min figures.count 8) (replicate 8 no_record) no_record room k under
      ∙ task-scaled (task_of figures.tasks k) scale fits.some least (none-high figures.tasks (min figures.count 8) k under fits.low)

  first-low : least_first figures ≤ scale
  first-low = omega (arith, least_first_lem (least_first figures) figures.tasks (min figures.count 8), fits.least)

  interval-is : min (figures.interval / scale) 65535 ≡ figures.interval / scale
  unfolding least_first
  interval-is = omega (arith, (least-down-is figures.interval scale fits.some).0 (omega (arith, first-low)))

  -- round and share where some of the processor is a supplier's
  module _ (other : figures.round ≡ figures.share → ⊥) where
    share-scale-is : share_scale figures scale ≡ scale
    unfolding share_scale is_whole
    share-scale-is = go (is_whole figures.round figures.share) refl
      where
        go : (whole : Bool) → (eqb figures.round 1 && eqb figures.share 1) ≡ whole → cond whole 1 scale ≡ scale
        go true e =
            let both = both_true (eqb figures.round 1) (eqb figures.share 1) e in
            absurd (other (eqb-true figures.round 1 both.0 ∙ sym (eqb-true figures.share 1 both.1)))
        go false e = refl

    round-even : figures.round % scale ≡ 0
    round-even = rw share-scale-is at fits.round

    share-even : figures.share % scale ≡ 0
    share-even = rw share-scale-is at fits.share

    round_is : min (figures.round / share_scale figures scale) 65535 ≡ figures.round / scale
    unfolding least_first
    round_is = rw share-scale-is (round-fits figures.round scale fits.some round-even (omega (arith, first-low)))

    share-is : min (figures.share / share_scale figures scale) 65535 ≡ figures.share / scale
    unfolding least_first
    share-is = rw share-scale-is (round-fits figures.share scale fits.some share-even (omega (arith, first-low)))

  -- each period and the interval leave a tick
  period-there : (k : ℕ) → k < figures.count → 1 ≤ number_at (task_of figures.tasks k) 5 / scale
  unfolding scaled_table
  period-there k h =
      let known = good-at figures.count (record_at table.records) (good-table table fits.good).records k h in
      omega (arith, known.cost.0, known.cost.1, known.deadline, ap (λ (r : Record). r.period) (record-at k h))

  interval-there : 1 ≤ figures.interval / scale
  unfolding scaled_table
  interval-there =
      let some : min (figures.interval / scale) 65535 ≡ 0 → ⊥ = (good-table table fits.good).interval in
      omega (arith, interval-is)

  -- a round and a share that the scale leaves as the table has them
  record Shared (round share : ℕ) : Type 0 where
    pub round-scaled : table.round ≡ scaled_part scale (tasks_with figures round share) round
    pub share-scaled : table.share ≡ scaled_part scale (tasks_with figures round share) share
    pub even : (round ≡ share) ⊎ ((round % scale ≡ 0) × (share % scale ≡ 0))

  -- 1 and 1 where it is all ours
  all-ours : figures.round ≡ figures.share → (table.round ≡ 1) × (table.share ≡ 1)
  unfolding scaled_table
  all-ours ours = go (ℕ_discrete (table_edition table) 0)
    where
      go : Dec (table_edition table ≡ 0) → (table.round ≡ 1) × (table.share ≡ 1)
      go (yes old) = whole-old table.round table.share old
      go (no other) =
          let new : table_edition table ≡ 1 = omega (arith, edition-low table.round table.share) in
          let within = right-share table.round table.share new (good-table table fits.good).share in
          let same : table.round ≡ table.share = ap (λ (n : ℕ). min (n / share_scale figures scale) 65535) ours in
          absurd (omega arith)

  -- the figures' own, where some of the processor is a supplier's and where it is whole
  shared-own : (figures.round ≡ figures.share → figures.round ≡ 1) → Shared figures.round figures.share
  unfolding scaled_table scaled_part
  shared-own whole = go (ℕ_discrete figures.round figures.share)
    where
      go : Dec (figures.round ≡ figures.share) → Shared figures.round figures.share
      go (yes ours) =
          let parts = all-ours ours in
          record {
            round-scaled = simp (eq-eqb figures.round figures.share ours) (parts.0 ∙ sym (whole ours));
            share-scaled = simp (eq-eqb figures.round figures.share ours) (parts.1 ∙ sym (whole ours) ∙ ours);
            even = inl ours;
          }
      go (no other) =
          record {
            round-scaled = simp (ne_eqb figures.round figures.share other) (round_is other);
            share-scaled = simp (ne_eqb figures.round figures.share other) (share-is other);
            even = inr (round-even other, share-even other);
          }

  shared-ours : figures.round ≡ figures.share → Shared 1 1
  unfolding scaled_part
  shared-ours ours = record { round-scaled = (all-ours ours).0; share-scaled = (all-ours ours).1; even = inl refl }

  -- the table's tasks are the figures' own in longer ticks
  module _ (round share : ℕ) (is : Shared round share) where
    same-tasks : SameTasks (scaled_tasks scale (tasks_with figures round share)) (table_tasks table) (λ k. k)
    unfolding scaled_table
    same-tasks =
        record {
          count = refl;
          interval = interval-is;
          round = is.round-scaled;
          share = is.share-scaled;
          numbered = record { within = λ k h. h; apart = λ j k a b e. e };
          task = record-at;
          fault = λ k h. own_at table k h few.1 ∙ ap (λ (r : Record). r.fault_priority) (record-at k h);
        }

    scalable : Scalable scale (tasks_with figures round share)
    scalable = record { period = period-there; interval = interval-there; shared = is.even }

    -- so what passes, or is assured, in them does so in its own ticks
    passes-with : passes (table_tasks table) ≡ true → NoneLate response_within (tasks_with figures round share)
    passes-with e = scaled-passes scale (tasks_with figures round share) scalable (sym (passes-held (scaled_tasks scale (tasks_with figures round share)) (table_tasks table) (λ k. k) same-tasks) ∙ e)

    assured-with : assured (table_tasks table) ≡ true → NoneLate assured_within (tasks_with figures round share)
    assured-with e = scaled-assured scale (tasks_with figures round share) scalable (sym (assured-same (scaled_tasks scale (tasks_with figures round share)) (table_tasks table) same-tasks) ∙ e)

-- rounds that are all ours leave the same times
module _ (figures : Figures) (round share : ℕ) (ours : round ≡ share) (i : ℕ) where
  elsewhere-ours : (L : ℕ) → struck_elsewhere (tasks_with figures round share) i L ≡ struck_elsewhere (tasks_with figures 1 1) i L
  unfolding struck_elsewhere asked_elsewhere backup_elsewhere largest_backup
  elsewhere-ours L = simp (unshared round share ours L, unshared 1 1 refl L)

  itself-ours : (L : ℕ) → struck_itself (tasks_with figures round share) i L ≡ struck_itself (tasks_with figures 1 1) i L
  unfolding struck_itself asked_itself backup_from_fault largest_backup is_between
  itself-ours L = simp (unshared round share ours L, unshared 1 1 refl L)

  assured-ours : (L : ℕ) → assured_equation (tasks_with figures round share) i L ≡ assured_equation (tasks_with figures 1 1) i L
  unfolding assured_equation asked_assured backup_ahead is_over is_ahead
  assured-ours L = simp (unshared round share ours L, unshared 1 1 refl L)

  time-elsewhere-ours : (limit : ℕ) → time_elsewhere limit (tasks_with figures round share) i ≡ time_elsewhere limit (tasks_with figures 1 1) i
  unfolding time_elsewhere
  time-elsewhere-ours limit = ap (λ (f : ℕ → ℕ). least_within f 1 limit) (fun_ext elsewhere-ours)

  time-itself-ours : (limit : ℕ) → time_itself limit (tasks_with figures round share) i ≡ time_itself limit (tasks_with figures 1 1) i
  unfolding time_itself
  time-itself-ours limit = ap (λ (f : ℕ → ℕ). least_within f 1 limit) (fun_ext itself-ours)

  response-ours : (limit : ℕ) → response_within limit (tasks_with figures round share) i ≡ response_within limit (tasks_with figures 1 1) i
  unfolding response_within
  response-ours limit = simp (time-elsewhere-ours limit, time-itself-ours limit)

  assured-time-ours : (limit : ℕ) → assured_within limit (tasks_with figures round share) i ≡ assured_within limit (tasks_with figures 1 1) i
  unfolding assured_within
  assured-time-ours limit = ap (λ (f : ℕ → ℕ). least_within f 1 limit) (fun_ext assured-ours)

-- what passes, or is assured, as the table that a scale makes of it does so unscaled
module _ (figures : Figures) (scale : ℕ) (refusal : (scaled_by figures scale).refusal ≡ 0) where
  fitting : Fits figures scale
  fitting = fits-of figures scale refusal

  pub figures-same : (figures.round ≡ figures.share → figures.round ≡ 1) → SameTasks (scaled_tasks scale (unscaled_tasks figures)) (table_tasks (scaled_by figures scale).table) (λ k. k)
  figures-same whole =
      subst (λ (t : Table). SameTasks (scaled_tasks scale (unscaled_tasks figures)) (table_tasks t) (λ k. k)) (sym fitting.table)
      (same-tasks figures scale fitting figures.round figures.share (shared-own figures scale fitting whole))

  pub figures-pass : passes (table_tasks (scaled_by figures scale).table) ≡ true → NoneLate response_within (unscaled_tasks figures)
  figures-pass e = go (ℕ_discrete figures.round figures.share)
    where
      good : passes (table_tasks (scaled_table figures scale)) ≡ true
      good = sym (ap (λ (t : Table). passes (table_tasks t)) fitting.table) ∙ e

      go : Dec (figures.round ≡ figures.share) → NoneLate response_within (unscaled_tasks figures)
      go (no other) = passes-with figures scale fitting figures.round figures.share (shared-own figures scale fitting (λ ours. absurd (other ours))) good
      go (yes ours) = λ i below.
          subst (λ (n : ℕ). 1 ≤ n) (sym (response-ours figures figures.round figures.share ours i (number_at (task_of figures.tasks i) 4)))
          (passes-with figures scale fitting 1 1 (shared-ours figures scale fitting ours) good i below)

  pub figures-assured : assured (table_tasks (scaled_by figures scale).table) ≡ true → NoneLate assured_within (unscaled_tasks figures)
  figures-assured e = go (ℕ_discrete figures.round figures.share)
    where
      good : assured (table_tasks (scaled_table figures scale)) ≡ true
      good = sym (ap (λ (t : Table). assured (table_tasks t)) fitting.table) ∙ e

      go : Dec (figures.round ≡ figures.share) → NoneLate assured_within (unscaled_tasks figures)
      go (no other) = assured-with figures scale fitting figures.round figures.share (shared-own figures scale fitting (λ ours. absurd (other ours))) good
      go (yes ours) = λ i below.
          subst (λ (n : ℕ). 1 ≤ n) (sym (assured-time-ours figures figures.round figures.share ours i (number_at (task_of figures.tasks i) 4)))
          (assured-with figures scale fitting 1 1 (shared-ours figures scale fitting ours) good i below)
