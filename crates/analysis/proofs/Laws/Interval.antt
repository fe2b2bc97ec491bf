-- A rule and the fault interval: a time by either rule never lengthens when the interval grows, so that a rule that is met stays met; at E = 1 no rule is met; and the columns of a good table tell the same, so that halving finds the least interval. Assumes nothing.
use Prim.Native.Nat.{ℕ, suc, ◌≤◌, ◌<◌}
use mathlib.Core.Path.{◌≡◌, refl, sym, ap, ◌∙◌, fun_ext}
use mathlib.Core.Bool.{Bool, true, false, not, true≢false}
use mathlib.Core.List.{List}
use native.Mathlib.Nat.{mul-le-mul_right}
use native.Mathlib.Omega.{arith}
use borrow.Author.Tests.{eq-eqb, not-true}
use Rattle.places.specs.Places.{some_below}
use Rattle.places.specs.Search.{first_from}
use Rattle.places.proofs.Some.{some-found, some-none, none-at}
use Rattle.sheet.specs.declared.Table.{Table}
use Rattle.sheet.specs.Layout.{record_at}
use Rattle.sheet.specs.Rules.{table_refusal}
use Rattle.sheet.proofs.Cases.{good-table, good-at}
use Rattle.analysis.specs.declared.common.by_rank.Frame.{Frame}
use Rattle.analysis.specs.declared.common.tasks.Chosen.{Chosen}
use Rattle.analysis.specs.declared.Rule.{Rule}
use Rattle.analysis.specs.declared.Rule.TheVariants.{Published, Assured}
use Rattle.analysis.specs.Common.Tasks.{tasks_of, own_choice}
use Rattle.analysis.specs.Common.Entries.{is_late}
use Rattle.analysis.specs.Common.ByRank.{ranked, frame_of, at_interval, ColumnsOf, FaultsOf}
use Rattle.analysis.specs.Published.Response.{response_time}
use Rattle.analysis.specs.Assured.Equation.{is_over, is_ahead, backup_ahead, asked_assured, assured_equation}
use Rattle.analysis.specs.Assured.Time.{assured_within, assured_time, unassured, assured}
use Rattle.analysis.specs.ByRule.{meets, time_by, least_interval_by}
use Rattle.analysis.proofs.Demands.{low-none, fails-at-1}
use Rattle.analysis.proofs.Laws.Common.Easier.{NoLater, least-easier}
use Rattle.analysis.proofs.Laws.Common.Verdicts.{on-time-within, within-on-time}
use Rattle.analysis.proofs.Laws.Published.Halving.{Kept, Between, halved-found}
use Rattle.analysis.proofs.Laws.Published.EachTick.{assured-never}
use Rattle.analysis.proofs.Laws.Published.Easier.{up-falls, falls-with-interval}
use Rattle.analysis.proofs.Laws.ByRule.{meets-each, meets-there-at}

-- a larger interval never lengthens a time, by either rule
module _ (t : Table) (choice : List ℕ) (i short long : ℕ) (some : 1 ≤ short) (less : short ≤ long) where
  assured-falls : NoLater (assured_time (tasks_of t long choice) i) (assured_time (tasks_of t short choice) i)
  unfolding assured_time assured_within assured_equation asked_assured is_over backup_ahead is_ahead
  assured-falls = least-easier _ _ 65535 (λ L low. omega (arith, mul-le-mul_right (backup_ahead (tasks_of t short choice) i) (up-falls L short long some less)))

  pub time-falls : (rule : Rule) → NoLater (time_by rule (tasks_of t long choice) i) (time_by rule (tasks_of t short choice) i)
  unfolding time_by response_time
  time-falls Published = falls-with-interval t choice i 65535 short long some less
  time-falls Assured = assured-falls

-- what meets a rule at an interval meets it at a larger one
pub meets-kept : (rule : Rule) (t : Table) (choice : List ℕ) → Kept (λ interval. meets rule (tasks_of t interval choice))
meets-kept rule t choice short long some less is =
    meets-each rule (tasks_of t long choice)
    ∙ ap not (some-none _ t.count (λ i below.
    let before = on-time-within (record_at t.records i).deadline _ (none-at misses t.count i below none) in
    let after = time-falls t choice i short long some less rule before.0 in
    within-on-time (record_at t.records i).deadline _ after.0 (omega (arith, after.1, before.1))))
  where
    misses : ℕ → Bool
    misses i = is_late (record_at t.records i).deadline (time_by rule (tasks_of t short choice) i)

    none : some_below misses t.count ≡ false
    none = not-true (some_below misses t.count) (sym (meets-each rule (tasks_of t short choice)) ∙ is)

-- so an interval at which it is met, next to one at which it is not, is the least
pub least-next : (rule : Rule) (t : Table) (fails : ℕ) → 1 ≤ fails → fails < 65535 → meets rule (tasks_of t fails (own_choice t)) ≡ false → meets rule (tasks_of t (suc fails) (own_choice t)) ≡ true → least_interval_by rule t ≡ suc fails
unfolding least_interval_by
least-next rule t fails some few failing passing =
    halved-found test 65535 fails (suc fails)
    (record { apart = (some, omega arith, omega arith); below = λ k low high. go k low high (test k) refl; above = λ h. passing })
    (omega arith)
    (omega arith)
  where
    test : ℕ → Bool
    test interval = meets rule (tasks_of t interval (own_choice t))

    go : (k : ℕ) → 1 ≤ k → k < suc fails → (b : Bool) → test k ≡ b → test k ≡ false
    go k low high false e = e
    go k low high true e = absurd (true≢false (sym (meets-kept rule t (own_choice t) k fails low (omega arith) e) ∙ failing))

-- at E = 1, where a fault comes each tick, no good table meets a rule, whatever the choice
pub unmet-at-1 : (rule : Rule) (t : Table) → table_refusal t ≡ 0 → (choice : List ℕ) → meets rule (tasks_of t 1 choice) ≡ false
unfolding meets assured is_late
unmet-at-1 Published t good choice = fails-at-1 t good choice
unmet-at-1 Assured t good choice = ap not (some-found (unassured (tasks_of t 1 choice)) 0 t.count first (simp (eq-eqb _ 0 none)))
  where
    first : 0 < t.count
    first = omega (arith, (good-table t good).count.0)

    none : assured_time (tasks_of t 1 choice) 0 ≡ 0
    none =
        let task = good-at t.count (record_at t.records) (good-table t good).records 0 first in
        (low-none (tasks_of t 1 choice) 0).1 (λ k low high. assured-never (tasks_of t 1 choice) refl 0 first task.cost.0 task.backup.0 k)

-- whether the tasks that are lent meet a rule at an interval
abbrev pub met_among : Rule → Chosen → ℕ → Bool
met_among rule among interval = meets rule (ranked among.tasks.columns.now (at_interval among.tasks.frame interval) among.faults.now)

-- what halving relies on: what is met at one interval is met at a larger one, 1 fails, and the first at which the rule is met is the table's least
pub record Halvable (rule : Rule) (t : Table) (among : Chosen) : Type 0 where
  pub kept : Kept (met_among rule among)
  pub begun : Between (met_among rule among) 65536 1 65536
  pub first : first_from (met_among rule among) 1 65535 ≡ least_interval_by rule t

-- with the table's own fault priorities, as the least interval is found
module _ (rule : Rule) (t : Table) (good : table_refusal t ≡ 0) (among : Chosen) (filled : ColumnsOf t among.tasks.columns.now) (beside : FaultsOf t (own_choice t) among.faults.now) (framed : among.tasks.frame ≡ frame_of t t.interval) where
  abbrev met : ℕ → Bool
  met = met_among rule among

  met-there : (interval : ℕ) → met interval ≡ meets rule (tasks_of t interval (own_choice t))
  met-there interval = meets-there-at t good among.tasks.columns.now filled (own_choice t) among.faults.now beside {interval = interval} (ap (λ (f : Frame). at_interval f interval) framed) rule

  pub halvable : Halvable rule t among
  unfolding least_interval_by
  halvable =
      record {
        kept = λ small large some less is. met-there large ∙ meets-kept rule t (own_choice t) small large some less (sym (met-there small) ∙ is);
        begun = record {
          apart = (omega arith, omega arith, omega arith);
          below = λ k low high. let only : k ≡ 1 = omega arith in ap met only ∙ met-there 1 ∙ unmet-at-1 rule t good (own_choice t);
          above = λ low. absurd (omega arith);
        };
        first = ap (λ (test : ℕ → Bool). first_from test 1 65535) (fun_ext met-there);
      }
