-- The same tasks in another order ask the same by the equation of the assured times, and have the same assured times. Assumes nothing.
use Prim.Native.Nat.{ℕ, ◌+◌, ◌*◌, ◌<◌}
use mathlib.Core.Path.{◌≡◌, sym, ap, ap₂, ◌∙◌}
use mathlib.Core.Bool.{Bool, cond, ◌&&◌}
use native.Mathlib.Decide.{ℕ_discrete}
use borrow.Author.Tests.{eq-eqb, ne_eqb}
use lib.Dec.{eqb, ltb}
use Rattle.sheet.specs.declared.Record.{Record}
use Rattle.analysis.specs.Common.Search.{least_within}
use Rattle.analysis.specs.Assured.Equation.{is_over, is_ahead, backup_ahead, assured_equation, asked_assured}
use Rattle.analysis.specs.Assured.Time.{assured_within, assured_time}
use Rattle.analysis.specs.Common.Rounding.{up}
use Rattle.analysis.specs.Common.Tasks.{Tasks}
use Rattle.analysis.specs.Common.Backups.{others}
use Rattle.analysis.specs.Common.Supplier.{supplier_of}
use Rattle.analysis.proofs.Laws.Common.Climbing.{least-agree}
use Rattle.analysis.proofs.Laws.Common.Reordered.{SameTasks, others-held, sum-held, most-held}

module _ (s held : Tasks) (rank : ℕ → ℕ) (same : SameTasks s held rank) where
  module _ (i : ℕ) (low : i < s.count) where
    pub asked-assured-held : (q N L : ℕ) → asked_assured s i q N L ≡ asked_assured held (rank i) q N L
    unfolding asked_assured is_over
    asked-assured-held q N L =
        simp (same.task i low, same.interval, same.round, same.share)
        (ap (λ (a : ℕ). (s.at i).cost + a + up L s.interval * N + supplier_of s.round s.share L)
        (sum-held s held rank same (λ k. cond (others i k && ltb q (s.at k).priority) (up L (s.at k).period * (s.at k).cost) 0) (λ k. cond (others (rank i) k && ltb q (held.at k).priority) (up L (held.at k).period * (held.at k).cost) 0)
        (λ k h. ap₂ (λ (b : Bool) (r : Record). cond (b && ltb q r.priority) (up L r.period * r.cost) 0) (others-held s held rank same i k low h) (same.task k h))))

    -- a task is ahead of another in either order, so that N is the same
    ahead-held : (k : ℕ) → k < s.count → is_ahead held (rank i) (rank k) ≡ is_ahead s i k
    unfolding is_ahead
    ahead-held k below = simp (same.task i low, same.task k below, same.fault i low, same.fault k below, itself (ℕ_discrete k i))
      where
        itself : Dec (k ≡ i) → eqb (rank k) (rank i) ≡ eqb k i
        itself (yes e) = eq-eqb (rank k) (rank i) (ap rank e) ∙ sym (eq-eqb k i e)
        itself (no other) = ne_eqb (rank k) (rank i) (λ e. other (same.numbered.apart k i below low e)) ∙ sym (ne_eqb k i other)

    backup-ahead-held : backup_ahead s i ≡ backup_ahead held (rank i)
    unfolding backup_ahead
    backup-ahead-held =
        most-held s held rank same (λ k. cond (is_ahead s i k) (s.at k).backup 0) (λ k. cond (is_ahead held (rank i) k) (held.at k).backup 0)
        (λ k below. ap₂ (λ (is : Bool) (r : Record). cond is r.backup 0) (ahead-held k below) (same.task k below))

    -- and so is the assured time
    pub assured-time-held : assured_time held (rank i) ≡ assured_time s i
    unfolding assured_time assured_within assured_equation
    assured-time-held =
        ap₂ (λ (q N : ℕ). least_within (asked_assured held (rank i) q N) 1 65535) (same.fault i low) (sym backup-ahead-held)
        ∙ sym (least-agree _ _ 1 65535 (λ L long. asked-assured-held (s.fault i) (backup_ahead s i) L))
