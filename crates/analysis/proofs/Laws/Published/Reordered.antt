-- Document 02, request 10: the same tasks in another order have the same responses and the same verdict. Assumes nothing.
use Prim.Native.Nat.{ℕ, ◌+◌, ◌-◌, ◌*◌, ◌<◌}
use mathlib.Core.Path.{◌≡◌, refl, sym, ap, ap₂, ◌∙◌, fun_ext}
use mathlib.Core.Bool.{cond, not, ◌&&◌}
use lib.Dec.{ltb}
use Rattle.places.specs.Places.{some_below, sum_below}
use Rattle.places.proofs.Agree.{some-agree}
use Rattle.places.proofs.Gathered.{some-reordered}
use Rattle.sheet.specs.declared.Record.{Record}
use Rattle.analysis.specs.Common.Rounding.{up}
use Rattle.analysis.specs.Common.Tasks.{Tasks}
use Rattle.analysis.specs.Common.Backups.{others, everyone, backup_elsewhere, backup_from_fault}
use Rattle.analysis.specs.Common.Supplier.{supplier_of}
use Rattle.analysis.specs.Published.Equations.{is_between, struck_elsewhere, struck_itself, asked_elsewhere, asked_itself}
use Rattle.analysis.specs.Common.Search.{least_within}
use Rattle.analysis.specs.Published.Response.{time_elsewhere, time_itself, response_within, response_time, late, passes}
use Rattle.analysis.specs.Common.Entries.{is_late}
use Rattle.analysis.proofs.Laws.Common.Reordered.{SameTasks, largest-held, others-held, sum-held}

module _ (s held : Tasks) (rank : ℕ → ℕ) (same : SameTasks s held rank) where
  module _ (i : ℕ) (low : i < s.count) where
    abbrev above : Tasks → ℕ → ℕ → ℕ → ℕ
    above tasks priority L k = cond (ltb priority (tasks.at k).priority) (up L (tasks.at k).period * (tasks.at k).cost) 0

    abbrev between : Tasks → ℕ → ℕ → ℕ → ℕ → ℕ
    between tasks priority fault L k = cond (ltb fault (tasks.at k).priority && ltb (tasks.at k).priority priority) ((1 + up L (tasks.at k).period) * (tasks.at k).cost) 0

    above-held : (priority L : ℕ) → sum_below (above s priority L) s.count ≡ sum_below (above held priority L) held.count
    above-held priority L = sum-held s held rank same (above s priority L) (above held priority L) (λ k h. ap (λ (r : Record). cond (ltb priority r.priority) (up L r.period * r.cost) 0) (same.task k h))

    between-held : (priority fault L : ℕ) → sum_below (between s priority fault L) s.count ≡ sum_below (between held priority fault L) held.count
    between-held priority fault L =
        sum-held s held rank same (between s priority fault L) (between held priority fault L)
        (λ k h. ap (λ (r : Record). cond (ltb fault r.priority && ltb r.priority priority) ((1 + up L r.period) * r.cost) 0) (same.task k h))

    -- what the equations ask with any M, and with any q and N
    pub asked-elsewhere-held : (M L : ℕ) → asked_elsewhere s i M L ≡ asked_elsewhere held (rank i) M L
    unfolding asked_elsewhere
    asked-elsewhere-held M L =
        simp (same.task i low, same.interval, same.round, same.share)
        (ap (λ (a : ℕ). (s.at i).cost + a + up L s.interval * M + supplier_of s.round s.share L) (above-held (s.at i).priority L))

    pub asked-itself-held : (q N L : ℕ) → asked_itself s i q N L ≡ asked_itself held (rank i) q N L
    unfolding asked_itself is_between
    asked-itself-held q N L =
        simp (same.task i low, same.interval, same.round, same.share)
        (ap₂ (λ (a b : ℕ). (s.at i).cost + (s.at i).backup + a + b + (up L s.interval - 1) * N + supplier_of s.round s.share L)
        (above-held (s.at i).priority L) (between-held (s.at i).priority q L))

    -- M and N
    backup-elsewhere-held : backup_elsewhere s i ≡ backup_elsewhere held (rank i)
    unfolding backup_elsewhere
    backup-elsewhere-held = simp (same.task i low) (largest-held s held rank same (others i) (others (rank i)) (s.at i).priority (λ k h. others-held s held rank same i k low h))

    backup-itself-held : backup_from_fault s i ≡ backup_from_fault held (rank i)
    unfolding backup_from_fault everyone
    backup-itself-held = simp (same.fault i low) (largest-held s held rank same everyone everyone (s.fault i) (λ k h. refl))

    elsewhere-held : (L : ℕ) → struck_elsewhere s i L ≡ struck_elsewhere held (rank i) L
    unfolding struck_elsewhere asked_elsewhere
    elsewhere-held L = asked-elsewhere-held (backup_elsewhere s i) L ∙ ap (λ (M : ℕ). asked_elsewhere held (rank i) M L) backup-elsewhere-held

    itself-held : (L : ℕ) → struck_itself s i L ≡ struck_itself held (rank i) L
    unfolding struck_itself is_between asked_itself
    itself-held L = asked-itself-held (s.fault i) (backup_from_fault s i) L ∙ ap₂ (λ (q N : ℕ). asked_itself held (rank i) q N L) (sym (same.fault i low)) backup-itself-held

    -- each of the two times, within every limit
    pub time-elsewhere-held : (limit : ℕ) → time_elsewhere limit s i ≡ time_elsewhere limit held (rank i)
    unfolding time_elsewhere
    time-elsewhere-held limit = ap (λ (f : ℕ → ℕ). least_within f 1 limit) (fun_ext elsewhere-held)

    pub time-itself-held : (limit : ℕ) → time_itself limit s i ≡ time_itself limit held (rank i)
    unfolding time_itself
    time-itself-held limit = ap (λ (f : ℕ → ℕ). least_within f 1 limit) (fun_ext itself-held)

    -- the response, within every limit
    pub response-held : (limit : ℕ) → response_within limit s i ≡ response_within limit held (rank i)
    unfolding response_within
    response-held limit = simp (time-elsewhere-held limit, time-itself-held limit)

    -- and whether it is late
    pub late-held : late held (rank i) ≡ late s i
    unfolding response_time
    late-held = ap₂ is_late (ap (λ (r : Record). r.deadline) (same.task i low)) (sym (response-held 65535))

  -- whether some task is late
  some-late-held : some_below (late held) s.count ≡ some_below (late s) s.count
  some-late-held = sym (some-reordered s.count rank same.numbered (late held)) ∙ some-agree s.count (λ k h. late-held k h)

  -- and the verdict
  pub passes-held : passes held ≡ passes s
  unfolding passes
  passes-held = ap (λ (n : ℕ). not (some_below (late held) n)) same.count ∙ ap not some-late-held
