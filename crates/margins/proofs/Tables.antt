-- A table that is eased is good and meets a rule where it did so before. Assumes nothing.
use Prim.Native.Nat.{ℕ, ◌≤◌, ◌<◌}
use mathlib.Core.Path.{◌≡◌, refl, sym, ap₂, ◌∙◌}
use mathlib.Core.Bool.{Bool, true, false, false≢true, cond}
use native.Mathlib.Omega.{arith}
use borrow.Author.Tests.{eq-eqb, eqb-true}
use lib.Dec.{eqb}
use Rattle.places.proofs.Agree.{some-agree}
use Rattle.places.proofs.Refusals.{next-of, none_of, first-clear}
use Rattle.sheet.specs.declared.Record.{Record}
use Rattle.sheet.specs.declared.Table.{Table}
use Rattle.sheet.specs.Layout.{record_at, is_whole, edition_for}
use Rattle.sheet.specs.Rules.{wrong_share, taken, record_refusal, records_refusal, table_refusal, shared_refusal}
use Rattle.sheet.proofs.Cases.{Good, GoodTable, good-table, good-at, outside-within, record-good, table-records}
use Rattle.analysis.specs.declared.Rule.{Rule}
use Rattle.analysis.specs.declared.Rule.TheVariants.{Published, Assured}
use Rattle.analysis.specs.Common.Entries.{own_tasks}
use Rattle.analysis.specs.ByRule.{meets, rule_refusal}
use Rattle.analysis.proofs.Laws.Common.Choice.{own_at}
use Rattle.analysis.proofs.Laws.ByRule.{rule-good}
use Rattle.analysis.proofs.Laws.Eased.{EasedTask, Eased, meets-eased}
use Rattle.margins.specs.Margins.{holds}

-- a record that is eased and stays good
pub record EasedRecord (r u : Record) : Type 0 where
  pub task : EasedTask r u
  pub cost : 1 ≤ u.cost
  pub backup : 1 ≤ u.backup
  pub deadline : u.deadline ≤ u.period
  pub fault : u.fault_priority ≡ r.fault_priority

-- a table of which each record is, once it is good
pub record EasedTable (t u : Table) : Type 0 where
  pub count : u.count ≡ t.count
  pub interval : u.interval ≡ t.interval
  pub round : u.round ≡ t.round
  pub share : u.share ≡ t.share
  pub each : table_refusal t ≡ 0 → (k : ℕ) → k < t.count → EasedRecord (record_at t.records k) (record_at u.records k)

module _ (t u : Table) (easy : EasedTable t u) (good : table_refusal t ≡ 0) where
  known : GoodTable t
  known = good-table t good

  one : (k : ℕ) → k < t.count → Good t.count (taken (record_at t.records) k (record_at t.records k).priority) (record_at t.records k)
  one k below = good-at t.count (record_at t.records) known.records k below

  still-fresh : (k : ℕ) → k < t.count → taken (record_at u.records) k (record_at u.records k).priority ≡ false
  unfolding taken
  still-fresh k below =
      some-agree k (λ j low. ap₂ eqb (easy.each good j (omega arith)).task.priority (easy.each good k below).task.priority) ∙ (one k below).fresh

  record-eased : (k : ℕ) → k < t.count → record_refusal t.count (record_at u.records) k ≡ 0
  unfolding record_refusal
  record-eased k below =
      let g = one k below in
      let e = easy.each good k below in
      let r = record_at u.records k in
      let cost : r.cost ≤ r.deadline = omega (arith, g.cost, e.task.cost, e.task.deadline) in
      let backup : r.backup ≤ r.deadline = omega (arith, g.backup, e.task.backup, e.task.deadline) in
      let priority : (1 ≤ r.priority) × (r.priority ≤ t.count) = rw e.task.priority g.priority in
      let fault : (1 ≤ r.fault_priority) × (r.fault_priority ≤ r.priority) = rw (e.task.priority, e.fault) g.fault in
      sym (record-good t.count _ r (outside-within r.cost r.deadline (e.cost, cost)) (outside-within r.backup r.deadline (e.backup, backup)) e.deadline
      (outside-within r.priority t.count priority) (still-fresh k below) (outside-within r.fault_priority r.priority fault))

  good-eased : table_refusal u ≡ 0
  unfolding records_refusal
  good-eased =
      sym (table-records u (outside-within u.count 8 (rw easy.count known.count)) (λ z. known.interval (sym easy.interval ∙ z))
      (ap₂ (λ (q p : ℕ). wrong_share (edition_for q p) q p) easy.round easy.share ∙ known.share))
      ∙ rw easy.count (first-clear (record_refusal t.count (record_at u.records)) t.count record-eased)

  tasks-eased : Eased (own_tasks t) (own_tasks u)
  tasks-eased =
      record {
        count = easy.count;
        interval = easy.interval;
        round = easy.round;
        share = easy.share;
        each = λ k below. (easy.each good k below).task;
        some = λ k below. let g = one k below in omega (arith, g.cost, g.deadline);
        fault = λ k below.
            let few = known.count.1 in
            own_at u k (rw easy.count below) (rw easy.count few) ∙ (easy.each good k below).fault ∙ sym (own_at t k below few);
      }

-- a table that is not refused under a rule is not when it is eased
rule-eased : (rule : Rule) (t u : Table) → EasedTable t u → rule_refusal rule t ≡ 0 → rule_refusal rule u ≡ 0
unfolding rule_refusal shared_refusal
rule-eased Published t u easy good = good-eased t u easy good
rule-eased Assured t u easy whole =
    let both = none_of (table_refusal t) (cond (is_whole t.round t.share) 0 19) whole in
    next-of _ (good-eased t u easy both.0) ∙ ap₂ (λ (q p : ℕ). cond (is_whole q p) 0 19) easy.round easy.share ∙ both.1

-- good, and meeting the rule: both at once
pub both_hold : (rule : Rule) (t : Table) → holds rule t ≡ true → (rule_refusal rule t ≡ 0) × (meets rule (own_tasks t) ≡ true)
unfolding holds
both_hold rule t is = go (eqb (rule_refusal rule t) 0) refl is
  where
    go : (b : Bool) → eqb (rule_refusal rule t) 0 ≡ b → cond b (meets rule (own_tasks t)) false ≡ true → (rule_refusal rule t ≡ 0) × (meets rule (own_tasks t) ≡ true)
    go true e h = (eqb-true (rule_refusal rule t) 0 e, h)
    go false e h = absurd (false≢true h)

hold-both : (rule : Rule) (t : Table) → rule_refusal rule t ≡ 0 → meets rule (own_tasks t) ≡ true → holds rule t ≡ true
unfolding holds
hold-both rule t good is = rw (eq-eqb (rule_refusal rule t) 0 good) is

-- what holds, holds when it is eased
pub holds-eased : (rule : Rule) (t u : Table) → EasedTable t u → holds rule t ≡ true → holds rule u ≡ true
holds-eased rule t u easy is =
    let both = both_hold rule t is in
    hold-both rule u (rule-eased rule t u easy both.0) (meets-eased (own_tasks t) (own_tasks u) (tasks-eased t u easy (rule-good rule t both.0)) rule both.1)
