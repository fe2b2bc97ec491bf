-- What the records of a good table bring to an equation under the table's own fault priorities, out of their own fields. Assumes nothing.
use Prim.Native.Nat.{ℕ, ◌+◌, ◌≤◌, ◌<◌}
use mathlib.Core.Path.{◌≡◌, sym, ap, ap₂}
use mathlib.Core.Bool.{cond, not, ◌&&◌, ◌||◌}
use native.Mathlib.Omega.{arith}
use lib.Dec.{eqb, ltb, leb}
use Rattle.sheet.specs.declared.Record.{Record}
use Rattle.sheet.specs.declared.Table.{Table}
use Rattle.sheet.specs.Layout.{record_at}
use Rattle.sheet.specs.Rules.{table_refusal}
use Rattle.sheet.proofs.Cases.{good-table, good-at}
use Rattle.analysis.specs.declared.Equation.TheVariants.{Elsewhere, Itself, Assurance}
use Rattle.analysis.specs.Common.Rounding.{up}
use Rattle.analysis.specs.Common.Backups.{others}
use Rattle.analysis.specs.Common.Entries.{own_tasks}
use Rattle.analysis.specs.Published.Equations.{is_between}
use Rattle.analysis.specs.Assured.Equation.{is_over, is_ahead}
use Rattle.analysis.proofs.Laws.Common.Choice.{own_at}
use Rattle.reasons.specs.Terms.{times_of, is_meant}

module _ (t : Table) (good : table_refusal t ≡ 0) where
  abbrev at : ℕ → Record
  at = record_at t.records

  -- a place below the count is one of eight
  pub place-few : (place : ℕ) → place < t.count → place < 8
  place-few place below = omega (arith, (good-table t good).count.1)

  -- and its record's period is not 0
  pub period-some : (place : ℕ) → place < t.count → 1 ≤ (at place).period
  period-some place below =
      let task = good-at t.count at (good-table t good).records place below in
      omega (arith, task.cost, task.deadline)

  module _ (place other : ℕ) (here : place < t.count) (there : other < t.count) where
    fault-here : (own_tasks t).fault place ≡ (at place).fault_priority
    fault-here = own_at t place here (good-table t good).count.1

    fault-there : (own_tasks t).fault other ≡ (at other).fault_priority
    fault-there = own_at t other there (good-table t good).count.1

    -- how many times a cost counts that comes so often
    pub times-elsewhere : (L : ℕ) {often : ℕ} → often ≡ up L (at other).period → times_of Elsewhere (own_tasks t) place L other ≡ cond (ltb (at place).priority (at other).priority) often 0
    unfolding times_of
    times-elsewhere L e = ap (λ (n : ℕ). cond (ltb (at place).priority (at other).priority) n 0) (sym e)

    pub times-itself : (L : ℕ) {often : ℕ} → often ≡ up L (at other).period → times_of Itself (own_tasks t) place L other
        ≡ cond (ltb (at place).priority (at other).priority) often (cond (ltb (at place).fault_priority (at other).priority && ltb (at other).priority (at place).priority) (1 + often) 0)
    unfolding times_of is_between
    times-itself L e =
        ap₂ (λ (q n : ℕ). cond (ltb (at place).priority (at other).priority) n (cond (ltb q (at other).priority && ltb (at other).priority (at place).priority) (1 + n) 0)) fault-here (sym e)

    pub times-assured : (L : ℕ) {often : ℕ} → often ≡ up L (at other).period → times_of Assurance (own_tasks t) place L other ≡ cond (not (eqb other place) && ltb (at place).fault_priority (at other).priority) often 0
    unfolding times_of is_over others
    times-assured L e = ap₂ (λ (q n : ℕ). cond (not (eqb other place) && ltb q (at other).priority) n 0) fault-here (sym e)

    -- whether a backup counts
    pub meant-elsewhere : is_meant Elsewhere (own_tasks t) place other ≡ (not (eqb other place) && leb (at place).priority (at other).fault_priority)
    unfolding is_meant others
    meant-elsewhere = ap (λ (q : ℕ). not (eqb other place) && leb (at place).priority q) fault-there

    pub meant_itself : is_meant Itself (own_tasks t) place other ≡ leb (at place).fault_priority (at other).fault_priority
    unfolding is_meant
    meant_itself = ap₂ leb fault-here fault-there

    pub meant-assured : is_meant Assurance (own_tasks t) place other
        ≡ (eqb other place || (ltb (at place).fault_priority (at other).fault_priority || (eqb (at other).fault_priority (at place).fault_priority && ltb (at place).priority (at other).priority)))
    unfolding is_meant is_ahead
    meant-assured = ap₂ (λ (p q : ℕ). eqb other place || (ltb p q || (eqb q p && ltb (at place).priority (at other).priority))) fault-here fault-there
