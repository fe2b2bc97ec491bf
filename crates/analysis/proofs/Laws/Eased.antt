-- Tasks that are eased, with no cost and no backup larger, no deadline and no period smaller and all else the same, meet a rule where they met it before. Assumes nothing.
use Prim.Native.Nat.{ℕ, ◌+◌, ◌-◌, ◌*◌, ◌≤◌, ◌<◌}
use mathlib.Core.Path.{◌≡◌, sym, ap, ap₂, ◌∙◌, subst}
use mathlib.Core.Bool.{Bool, true, false, cond, not, ◌&&◌, ◌||◌}
use native.Mathlib.Nat.{le_refl, le_of_eq, mul-le-mul}
use native.Mathlib.Omega.{arith}
use borrow.Author.Tests.{not-true}
use lib.Dec.{eqb, ltb, leb}
use Rattle.places.specs.Places.{some_below, sum_below}
use Rattle.places.proofs.Some.{some-none, none-at}
use Rattle.places.proofs.Summed.{sum-rises}
use Rattle.places.proofs.Largest.{most-along}
use Rattle.sheet.specs.declared.Record.{Record}
use Rattle.analysis.specs.declared.Rule.{Rule}
use Rattle.analysis.specs.declared.Rule.TheVariants.{Published, Assured}
use Rattle.analysis.specs.Common.Rounding.{up}
use Rattle.analysis.specs.Common.Tasks.{Tasks}
use Rattle.analysis.specs.Common.Backups.{others, everyone, backup_of, largest_backup, backup_elsewhere, backup_from_fault}
use Rattle.analysis.specs.Common.Supplier.{supplier_of}
use Rattle.analysis.specs.Common.Entries.{is_late}
use Rattle.analysis.specs.Published.Equations.{is_between, asked_elsewhere, struck_elsewhere, asked_itself, struck_itself}
use Rattle.analysis.specs.Published.Response.{time_elsewhere, time_itself, response_time}
use Rattle.analysis.specs.Assured.Equation.{is_over, is_ahead, backup_ahead, asked_assured, assured_equation}
use Rattle.analysis.specs.Assured.Time.{assured_within, assured_time}
use Rattle.analysis.specs.ByRule.{meets, time_by}
use Rattle.analysis.proofs.Laws.Common.Easier.{NoLater, least-easier}
use Rattle.analysis.proofs.Laws.Common.Verdicts.{on-time-within, within-on-time}
use Rattle.analysis.proofs.Laws.Published.Easier.{up-falls}
use Rattle.analysis.proofs.Laws.Published.Larger.{response-easier}
use Rattle.analysis.proofs.Laws.ByRule.{meets-each}

-- a record that is eased: no larger cost and backup, no smaller deadline and period, the same priority
pub record EasedTask (r u : Record) : Type 0 where
  pub cost : u.cost ≤ r.cost
  pub backup : u.backup ≤ r.backup
  pub deadline : r.deadline ≤ u.deadline
  pub period : r.period ≤ u.period
  pub priority : u.priority ≡ r.priority

-- tasks of which each is eased and none has the period 0, under the same fault priorities and in the same rounds
pub record Eased (s u : Tasks) : Type 0 where
  pub count : u.count ≡ s.count
  pub interval : u.interval ≡ s.interval
  pub round : u.round ≡ s.round
  pub share : u.share ≡ s.share
  pub each : (k : ℕ) → k < s.count → EasedTask (s.at k) (u.at k)
  pub some : (k : ℕ) → k < s.count → 1 ≤ (s.at k).period
  pub fault : (k : ℕ) → k < s.count → u.fault k ≡ s.fault k

-- what the same test picks is no more
picked-easier : {a b : Bool} {x y : ℕ} → a ≡ b → x ≤ y → cond a x 0 ≤ cond b y 0
picked-easier {a} {b} {x} {y} e less = subst (λ (c : Bool). cond a x 0 ≤ cond c y 0) e (go a)
  where
    go : (c : Bool) → cond c x 0 ≤ cond c y 0
    go true = less
    go false = le_refl 0

module _ (s u : Tasks) (easy : Eased s u) where
  -- a task's runs are no more, nor are its runs and one more
  fewer : (k L : ℕ) → k < s.count → up L (u.at k).period ≤ up L (s.at k).period
  fewer k L below = up-falls L (s.at k).period (u.at k).period (easy.some k below) (easy.each k below).period

  runs-easier : (k L : ℕ) → k < s.count → up L (u.at k).period * (u.at k).cost ≤ up L (s.at k).period * (s.at k).cost
  runs-easier k L below = mul-le-mul (fewer k L below) (easy.each k below).cost

  -- the largest backup at or above a priority is no larger
  largest-easier : (meant : ℕ → Bool) {low high : ℕ} → low ≡ high → largest_backup u meant low ≤ largest_backup s meant high
  unfolding largest_backup backup_of
  largest-easier meant same =
      rw easy.count
      (most-along _ _ (λ k. k) s.count s.count (λ k below. below)
      (λ k below. picked-easier (ap₂ (λ (l f : ℕ). meant k && leb l f) same (easy.fault k below)) (easy.each k below).backup))

  supplier-same : (L : ℕ) → supplier_of u.round u.share L ≡ supplier_of s.round s.share L
  supplier-same L = ap₂ (λ (q p : ℕ). supplier_of q p L) easy.round easy.share

  often-same : (L : ℕ) → up L u.interval ≡ up L s.interval
  often-same L = ap (up L) easy.interval

  module _ (i : ℕ) (here : i < s.count) where
    -- what the tasks above p ask for is no more, what those between q and p do, and what all others above q do
    above-easier : (L : ℕ) → sum_below (λ k. cond (ltb (u.at i).priority (u.at k).priority) (up L (u.at k).period * (u.at k).cost) 0) u.count
        ≤ sum_below (λ k. cond (ltb (s.at i).priority (s.at k).priority) (up L (s.at k).period * (s.at k).cost) 0) s.count
    above-easier L =
        rw easy.count
        (sum-rises s.count (λ k below. picked-easier (ap₂ ltb (easy.each i here).priority (easy.each k below).priority) (runs-easier k L below)))

    between-easier : (L : ℕ) → sum_below (λ k. cond (is_between u i (u.fault i) k) ((1 + up L (u.at k).period) * (u.at k).cost) 0) u.count
        ≤ sum_below (λ k. cond (is_between s i (s.fault i) k) ((1 + up L (s.at k).period) * (s.at k).cost) 0) s.count
    unfolding is_between
    between-easier L =
        rw easy.count
        (sum-rises s.count (λ k below.
        let same = (easy.each k below).priority in
        picked-easier (ap₂ ◌&&◌ (ap₂ ltb (easy.fault i here) same) (ap₂ ltb same (easy.each i here).priority)) (mul-le-mul (omega (arith, fewer k L below)) (easy.each k below).cost)))

    over-easier : (L : ℕ) → sum_below (λ k. cond (is_over u i (u.fault i) k) (up L (u.at k).period * (u.at k).cost) 0) u.count
        ≤ sum_below (λ k. cond (is_over s i (s.fault i) k) (up L (s.at k).period * (s.at k).cost) 0) s.count
    unfolding is_over
    over-easier L =
        rw easy.count
        (sum-rises s.count (λ k below.
        picked-easier (ap₂ (λ (q p : ℕ). others i k && ltb q p) (easy.fault i here) (easy.each k below).priority) (runs-easier k L below)))

    -- M and N are no larger, by either rule
    elsewhere-backup : backup_elsewhere u i ≤ backup_elsewhere s i
    unfolding backup_elsewhere
    elsewhere-backup = largest-easier (others i) (easy.each i here).priority

    fault-backup : backup_from_fault u i ≤ backup_from_fault s i
    unfolding backup_from_fault
    fault-backup = largest-easier everyone (easy.fault i here)

    ahead-same : (k : ℕ) → k < s.count → is_ahead u i k ≡ is_ahead s i k
    unfolding is_ahead
    ahead-same k below =
        ap₂ (λ (a b : Bool). eqb k i || (a || b)) (ap₂ ltb (easy.fault i here) (easy.fault k below))
        (ap₂ ◌&&◌ (ap₂ eqb (easy.fault k below) (easy.fault i here)) (ap₂ ltb (easy.each i here).priority (easy.each k below).priority))

    ahead-backup : backup_ahead u i ≤ backup_ahead s i
    unfolding backup_ahead is_ahead
    ahead-backup =
        rw easy.count
        (most-along _ _ (λ k. k) s.count s.count (λ k below. below) (λ k below. picked-easier (ahead-same k below) (easy.each k below).backup))

    -- so each equation asks for no more
    elsewhere-asked : (L : ℕ) → struck_elsewhere u i L ≤ struck_elsewhere s i L
    unfolding struck_elsewhere asked_elsewhere
    elsewhere-asked L = omega (arith, (easy.each i here).cost, above-easier L, mul-le-mul (le_of_eq (often-same L)) elsewhere-backup, supplier-same L)

    itself-asked : (L : ℕ) → struck_itself u i L ≤ struck_itself s i L
    unfolding struck_itself asked_itself
    itself-asked L =
        omega (arith, (easy.each i here).cost, (easy.each i here).backup, above-easier L, between-easier L, mul-le-mul (le_of_eq (ap (λ (n : ℕ). n - 1) (often-same L))) fault-backup, supplier-same L)

    assured-asked : (L : ℕ) → assured_equation u i L ≤ assured_equation s i L
    unfolding assured_equation asked_assured
    assured-asked L = omega (arith, (easy.each i here).cost, over-easier L, mul-le-mul (le_of_eq (often-same L)) ahead-backup, supplier-same L)

    elsewhere-eased : NoLater (time_elsewhere 65535 u i) (time_elsewhere 65535 s i)
    unfolding time_elsewhere
    elsewhere-eased = least-easier _ _ 65535 (λ L low. elsewhere-asked L)

    itself-eased : NoLater (time_itself 65535 u i) (time_itself 65535 s i)
    unfolding time_itself
    itself-eased = least-easier _ _ 65535 (λ L low. itself-asked L)

    -- and no time is later
    pub time-eased : (rule : Rule) → NoLater (time_by rule u i) (time_by rule s i)
    unfolding time_by response_time assured_time assured_within
    time-eased Published = response-easier 65535 u s i elsewhere-eased itself-eased
    time-eased Assured = least-easier _ _ 65535 (λ L low. assured-asked L)

    on-time-eased : (rule : Rule) → is_late (s.at i).deadline (time_by rule s i) ≡ false → is_late (u.at i).deadline (time_by rule u i) ≡ false
    on-time-eased rule is =
        let before = on-time-within (s.at i).deadline _ is in
        let after = time-eased rule before.0 in
        within-on-time (u.at i).deadline _ after.0 (omega (arith, (easy.each i here).deadline, after.1, before.1))

  -- what meets a rule meets it when it is eased
  pub meets-eased : (rule : Rule) → meets rule s ≡ true → meets rule u ≡ true
  meets-eased rule is = meets-each rule u ∙ ap not (some-none _ u.count (λ i below. let here = rw easy.count at below in on-time-eased i here rule (none-at misses s.count i here none)))
    where
      misses : ℕ → Bool
      misses i = is_late (s.at i).deadline (time_by rule s i)

      none : some_below misses s.count ≡ false
      none = not-true (some_below misses s.count) (sym (meets-each rule s) ∙ is)
