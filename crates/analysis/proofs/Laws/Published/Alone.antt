-- The supplier's share in the equations: it acts on us like a task above all others, and on a processor that is not shared every answer is the one without it. Assumes nothing.
use Prim.Native.Nat.{ℕ, suc, ◌+◌, ◌-◌, ◌*◌, ◌<◌, max}
use mathlib.Core.Path.{◌≡◌, refl, ap, ap₂, ◌∙◌, fun_ext}
use mathlib.Core.Bool.{Bool, true, false, cond, not, ◌&&◌, ◌||◌, and-false}
use native.Mathlib.Omega.{arith}
use borrow.Author.Tests.{eq-eqb, ne_eqb, lt-ltb, le-ltb}
use lib.Dec.{eqb, leb, ltb}
use Rattle.places.specs.Places.{some_below, sum_below, most_below}
use Rattle.places.proofs.Agree.{sum-agree, most-agree}
use Rattle.sheet.specs.declared.Record.{Record}
use Rattle.analysis.specs.Common.Rounding.{up}
use Rattle.analysis.specs.Common.Tasks.{Tasks}
use Rattle.analysis.specs.Common.Backups.{others, everyone, backup_of, largest_backup, backup_elsewhere, backup_from_fault}
use Rattle.analysis.specs.Common.Supplier.{supplier_of}
use Rattle.analysis.specs.Published.Equations.{is_between, struck_elsewhere, struck_itself, asked_elsewhere, asked_itself}
use Rattle.analysis.specs.Common.Search.{least_within}
use Rattle.analysis.specs.Published.Response.{time_elsewhere, time_itself, response_within, response_time, passes}
use Rattle.analysis.specs.Common.Entries.{is_late}
use Rattle.analysis.proofs.Laws.Common.Supplier.{unshared}

-- the equations without the term: document 01's, and document 02's of request 3
unfoldable pub alone_elsewhere : Tasks → ℕ → ℕ → ℕ
alone_elsewhere s i L =
    (s.at i).cost
    + sum_below (λ k. cond (ltb (s.at i).priority (s.at k).priority) (up L (s.at k).period * (s.at k).cost) 0) s.count
    + up L s.interval * backup_elsewhere s i

unfoldable pub alone_itself : Tasks → ℕ → ℕ → ℕ
alone_itself s i L =
    (s.at i).cost + (s.at i).backup
    + sum_below (λ k. cond (ltb (s.at i).priority (s.at k).priority) (up L (s.at k).period * (s.at k).cost) 0) s.count
    + sum_below (λ k. cond (is_between s i (s.fault i) k) ((1 + up L (s.at k).period) * (s.at k).cost) 0) s.count
    + (up L s.interval - 1) * backup_from_fault s i

-- the response by them: "the larger of the two times"
unfoldable pub alone_within : ℕ → Tasks → ℕ → ℕ
alone_within limit s i =
    cond (eqb (least_within (alone_elsewhere s i) 1 limit) 0 || eqb (least_within (alone_itself s i) 1 limit) 0) 0
    (max (least_within (alone_elsewhere s i) 1 limit) (least_within (alone_itself s i) 1 limit))

-- with Q = S, and so with Q = S = 1, every answer is the one without the term
module _ (s : Tasks) (whole : s.round ≡ s.share) where
  elsewhere-alone : (i : ℕ) → struck_elsewhere s i ≡ alone_elsewhere s i
  unfolding struck_elsewhere asked_elsewhere alone_elsewhere
  elsewhere-alone i = fun_ext (λ L. omega (arith, unshared s.round s.share whole L))

  itself-alone : (i : ℕ) → struck_itself s i ≡ alone_itself s i
  unfolding struck_itself asked_itself is_between alone_itself
  itself-alone i = fun_ext (λ L. omega (arith, unshared s.round s.share whole L))

  pub response-alone : (limit i : ℕ) → response_within limit s i ≡ alone_within limit s i
  unfolding response_within alone_within time_elsewhere time_itself
  response-alone limit i = rw (elsewhere-alone i, itself-alone i) refl

  pub passes-alone : passes s ≡ not (some_below (λ i. is_late (s.at i).deadline (alone_within 65535 s i)) s.count)
  unfolding passes response_time
  passes-alone = ap (λ (f : ℕ → ℕ). not (some_below (λ i. is_late (s.at i).deadline (f i)) s.count)) (fun_ext (response-alone 65535))

-- the supplier as a task: period Q, cost Q − S, and nothing to run after a fault
abbrev supplier_task : ℕ → ℕ → ℕ → Record
supplier_task round share priority = record { cost = round - share; backup = 0; deadline = round; period = round; priority = priority; fault_priority = priority }

-- one more task, at the place after the last and at a priority above all others, on a processor that is not shared
unfoldable pub with_supplier : Tasks → ℕ → Tasks
with_supplier s priority =
    record {
      count = suc s.count;
      at = λ k. cond (eqb k s.count) (supplier_task s.round s.share priority) (s.at k);
      interval = s.interval;
      round = 1;
      share = 1;
      fault = λ k. cond (eqb k s.count) priority (s.fault k);
    }

-- "it acts on us like a task above all others, with period the round Q and cost Q − S": the equations of every record are those of one more task
module _ (s : Tasks) (priority : ℕ) (above : (k : ℕ) → k < s.count → (s.at k).priority < priority) (i : ℕ) (below : i < s.count) where
  abbrev more : Tasks
  more = with_supplier s priority

  at_same : (k : ℕ) → k < s.count → more.at k ≡ s.at k
  unfolding with_supplier
  at_same k h = simp (ne_eqb k s.count (λ e. omega arith))

  fault-same : (k : ℕ) → k < s.count → more.fault k ≡ s.fault k
  unfolding with_supplier
  fault-same k h = simp (ne_eqb k s.count (λ e. omega arith))

  at_last : more.at s.count ≡ supplier_task s.round s.share priority
  unfolding with_supplier
  at_last = simp (eq-eqb s.count s.count refl)

  -- its backup is 0, so that the largest are as they were
  largest-same : (meant : ℕ → Bool) (low : ℕ) → largest_backup more meant low ≡ largest_backup s meant low
  unfolding largest_backup most_below backup_of with_supplier
  largest-same meant low =
      let earlier = most-agree s.count (λ k h. ap₂ (λ (r : Record) (q : ℕ). backup_of r (meant k) q low) (at_same k h) (fault-same k h)) in
      let last : backup_of (more.at s.count) (meant s.count) (more.fault s.count) low ≡ 0 = ap (λ (r : Record). backup_of r (meant s.count) (more.fault s.count) low) at_last ∙ nothing (meant s.count && leb low (more.fault s.count)) in
      omega (arith, earlier, last)
    where
      nothing : (b : Bool) → ◌≡◌ {A = ℕ} (cond b 0 0) 0
      nothing true = refl
      nothing false = refl

  -- what a record above another runs
  above-run : ℕ → Record → Record → ℕ
  above-run L own r = cond (ltb own.priority r.priority) (up L r.period * r.cost) 0

  -- one below it and above its fault priority
  between_run : ℕ → ℕ → Record → Record → ℕ
  between_run L q own r = cond (ltb q r.priority && ltb r.priority own.priority) ((1 + up L r.period) * r.cost) 0

  -- the supplier runs above every record, and between none and its fault priority
  supplier-above : (L : ℕ) → above-run L (s.at i) (supplier_task s.round s.share priority) ≡ supplier_of s.round s.share L
  unfolding above-run supplier_of
  supplier-above L = simp (lt-ltb (s.at i).priority priority (above i below))

  supplier-between : (L q : ℕ) → between_run L q (s.at i) (supplier_task s.round s.share priority) ≡ 0
  unfolding between_run
  supplier-between L q = simp (le-ltb priority (s.at i).priority (omega (arith, above i below)), and-false (ltb q priority))

  pub elsewhere-with-supplier : (L : ℕ) → struck_elsewhere more i L ≡ struck_elsewhere s i L
  unfolding struck_elsewhere asked_elsewhere sum_below backup_elsewhere with_supplier above-run
  elsewhere-with-supplier L =
      let own = at_same i below in
      let runs = sum-agree s.count (λ k h. ap₂ (above-run L) own (at_same k h)) in
      let last = ap₂ (above-run L) own at_last ∙ supplier-above L in
      let most = largest-same (others i) (more.at i).priority ∙ ap (λ (r : Record). largest_backup s (others i) r.priority) own in
      omega (arith, ap (λ (r : Record). r.cost) own, runs, last, ap (λ (M : ℕ). up L s.interval * M) most, unshared 1 1 refl L)

  pub itself-with-supplier : (L : ℕ) → struck_itself more i L ≡ struck_itself s i L
  unfolding struck_itself asked_itself sum_below is_between backup_from_fault with_supplier above-run between_run
  itself-with-supplier L =
      let own = at_same i below in
      let q = fault-same i below in
      let runs = sum-agree s.count (λ k h. ap₂ (above-run L) own (at_same k h)) in
      let last = ap₂ (above-run L) own at_last ∙ supplier-above L in
      let between = sum-agree s.count (λ k h. ap₂ (between_run L (more.fault i)) own (at_same k h) ∙ ap (λ (f : ℕ). between_run L f (s.at i) (s.at k)) q) in
      let none = ap₂ (between_run L (more.fault i)) own at_last ∙ supplier-between L (more.fault i) in
      let most = largest-same everyone (more.fault i) ∙ ap (largest_backup s everyone) q in
      omega (arith, ap (λ (r : Record). r.cost) own, ap (λ (r : Record). r.backup) own, runs, last, between, none, ap (λ (N : ℕ). (up L s.interval - 1) * N) most, unshared 1 1 refl L)
