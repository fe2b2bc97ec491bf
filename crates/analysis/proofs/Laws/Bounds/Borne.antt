-- How large a backup a record bears: what it bears it bears smaller too, so that one limit for M and one for N of each fault priority decide whether it is on time. Assumes nothing.
use Prim.Native.Nat.{ℕ, ◌+◌, ◌-◌, ◌*◌, ◌/◌, ◌%◌, ◌≤◌, ◌<◌, max}
use mathlib.Core.Path.{◌≡◌, refl, sym, ap, ap₂, ◌∙◌}
use mathlib.Core.Bool.{Bool, true, false, true≢false, cond, not, ◌&&◌}
use mathlib.Core.List.{List, []}
use native.Mathlib.Nat.{mul-le-mul_left}
use native.Mathlib.Decide.{dec_lt}
use native.Mathlib.Omega.{arith}
use borrow.Author.Tests.{le-leb, lt-ltb, le-ltb, not-true}
use lib.Dec.{eqb, leb, ltb}
use lib.ListN.{get_or, replicate}
use Rattle.places.specs.Places.{some_below, most_below}
use Rattle.places.proofs.Agree.{some-agree}
use Rattle.places.proofs.Largest.{most-part, max-holds, most-holds}
use Rattle.places.proofs.Filled.{filled_at}
use Rattle.places.proofs.Refusals.{passed, none_of}
use Rattle.sheet.specs.declared.Table.{Table}
use Rattle.sheet.specs.Layout.{record_at}
use Rattle.sheet.specs.Rules.{outside, table_refusal}
use Rattle.sheet.proofs.Cases.{good-table, good-at, within as within-limit}
use Rattle.analysis.specs.Assured.Equation.{is_over, asked_assured}
use Rattle.analysis.specs.Published.Equations.{is_between, asked_elsewhere, asked_itself}
use Rattle.analysis.specs.declared.Rule.{Rule}
use Rattle.analysis.specs.declared.Rule.TheVariants.{Published, Assured}
use Rattle.analysis.specs.Common.Rounding.{up}
use Rattle.analysis.specs.Common.Tasks.{Tasks, tasks_of}
use Rattle.analysis.specs.Common.Backups.{everyone}
use Rattle.analysis.specs.Common.Search.{least_within}
use Rattle.analysis.specs.Common.Entries.{is_late}
use Rattle.analysis.specs.Bounds.Limits.{asked_with, asked_by, bears, borne, limit_of, limit_at}
use Rattle.analysis.specs.Bounds.Found.{found_bounds}
use Rattle.analysis.specs.Bounds.Within.{largest_of, below, within_at, within_bounds, bounds_refusal}
use Rattle.analysis.proofs.Laws.Common.Verdicts.{on-time-within, within-on-time}
use Rattle.analysis.proofs.Laws.Common.Easier.{least-easier}

-- a limit so far raised by a backup: one that is not past it, one that is borne, one that is not
module _ (test : ℕ → Bool) (backup limit : ℕ) where
  pub raise-past : backup + 1 ≤ limit → limit ≡ max limit (borne test backup)
  unfolding borne
  raise-past low = go (test backup)
    where
      go : (b : Bool) → limit ≡ max limit (cond b (backup + 1) 0)
      go true = omega arith
      go false = omega arith

  pub raise-borne : limit < backup + 1 → test backup ≡ true → backup + 1 ≡ max limit (borne test backup)
  unfolding borne
  raise-borne high is = simp is (omega arith)

  pub raise-missed : test backup ≡ false → limit ≡ max limit (borne test backup)
  unfolding borne
  raise-missed is = simp is (omega arith)

-- the largest of some is no larger than that of all
pub some-fewer : (backups choice : List ℕ) (meant : ℕ → Bool) (priority n : ℕ) → largest_of backups choice meant priority n ≤ largest_of backups choice everyone priority n
unfolding largest_of everyone
some-fewer backups choice meant priority n =
    most-holds (λ v. v ≤ most_below all n) (λ k. cond (meant k && leb priority (get_or choice k 0)) (get_or backups k 0) 0) n (omega arith) (λ k below. pick (meant k) k below)
  where
    all : ℕ → ℕ
    all k = cond (leb priority (get_or choice k 0)) (get_or backups k 0) 0

    pick : (is : Bool) (k : ℕ) → k < n → cond (is && leb priority (get_or choice k 0)) (get_or backups k 0) 0 ≤ most_below all n
    pick true k below = most-part all n k below
    pick false k below = omega arith

-- a test that holds at a number holds at every smaller one
abbrev pub Falls : (ℕ → Bool) → Type 0
Falls test = (small large : ℕ) → small ≤ large → test large ≡ true → test small ≡ true

-- a limit over n backups and none
module _ (test : ℕ → Bool) (backup : ℕ → ℕ) (n : ℕ) where
  abbrev limit : ℕ
  limit = limit_of test backup n

  -- no backup that is borne is past it, nor none, nor the largest of some of them
  abbrev pub Within-limit : ℕ → Type 0
  Within-limit v = borne test v ≤ limit_of test backup n

  none_within : Within-limit 0
  unfolding limit_of
  none_within = omega arith

  backup-within : (k : ℕ) → k < n → Within-limit (backup k)
  unfolding limit_of
  backup-within k below = omega (arith, most-part (λ j. borne test (backup j)) n k below)

  pub largest-within : (meant : ℕ → Bool) → Within-limit (most_below (λ k. cond (meant k) (backup k) 0) n)
  largest-within meant = most-holds Within-limit (λ k. cond (meant k) (backup k) 0) n none_within (λ k below. pick (meant k) k below)
    where
      pick : (is : Bool) (k : ℕ) → k < n → Within-limit (cond is (backup k) 0)
      pick true k below = backup-within k below
      pick false k below = none_within

  -- what is below it is borne
  below-borne : Falls test → (v : ℕ) → v < limit → test v ≡ true
  unfolding limit_of borne
  below-borne falls v = max-holds Says (most_below (λ k. borne test (backup k)) n) (borne test 0) (most-holds Says (λ k. borne test (backup k)) n (λ low. absurd (omega arith)) (λ k below. one (backup k) (test (backup k)) refl)) (one 0 (test 0) refl)
    where
      Says : ℕ → Type 0
      Says bound = v < bound → test v ≡ true

      one : (w : ℕ) (b : Bool) → test w ≡ b → v < cond b (w + 1) 0 → test v ≡ true
      one w true is low = falls v w (omega arith) is
      one w false is low = absurd (omega arith)

  -- so that for what is within it the test is the comparison
  pub limit-exact : Falls test → (v : ℕ) → Within-limit v → ltb v limit ≡ test v
  unfolding borne
  limit-exact falls v within = go (test v) refl (dec_lt v limit)
    where
      go : (b : Bool) → test v ≡ b → Dec (v < limit) → ltb v limit ≡ test v
      go true is side = lt-ltb v limit (let here : cond (test v) (v + 1) 0 ≡ v + 1 = simp is in omega arith) ∙ sym is
      go false is (yes low) = absurd (true≢false (sym (below-borne falls v low) ∙ is))
      go false is (no high) = le-ltb v limit (omega arith) ∙ sym is

-- a larger backup asks no less of any length, so that a record bears what is smaller than what it bears
asked-rises : (rule : Rule) (s : Tasks) (i q small large : ℕ) → small ≤ large → (L : ℕ) → 1 ≤ L → asked_by rule s i q small L ≤ asked_by rule s i q large L
unfolding asked_by asked_with asked_elsewhere asked_itself is_between asked_assured is_over
asked-rises Assured s i q small large less L some = omega (arith, mul-le-mul_left (up L s.interval) less)
asked-rises Published s i q small large less L some = go (eqb q 0)
  where
    go : (is : Bool) → cond is (asked_elsewhere s i small) (asked_itself s i q small) L ≤ cond is (asked_elsewhere s i large) (asked_itself s i q large) L
    go true = omega (arith, mul-le-mul_left (up L s.interval) less)
    go false = omega (arith, mul-le-mul_left (up L s.interval - 1) less)

-- a record bears what asks no more
pub bears-easier : (rule other : Rule) (s : Tasks) (i q p small large : ℕ) → ((L : ℕ) → 1 ≤ L → asked_by rule s i q small L ≤ asked_by other s i p large L) → bears other s i p large ≡ true → bears rule s i q small ≡ true
unfolding bears
bears-easier rule other s i q p small large less is =
    let before = on-time-within (s.at i).deadline _ (not-true (is_late (s.at i).deadline (least_within (asked_by other s i p large) 1 65535)) is) in
    let after = least-easier (asked_by rule s i q small) (asked_by other s i p large) 65535 less before.0 in
    ap not (within-on-time (s.at i).deadline _ after.0 (omega arith))

pub bears-falls : (rule : Rule) (s : Tasks) (i q : ℕ) → Falls (bears rule s i q)
bears-falls rule s i q small large less = bears-easier rule rule s i q q small large (asked-rises rule s i q small large less)

-- bounds that are not refused have 1 to 8 records
pub bounds-few : (refusal count : ℕ) → bounds_refusal refusal count ≡ 0 → count ≤ 8
unfolding bounds_refusal
bounds-few refusal count e = (within-limit count 8 (passed (outside count 8) 1 0 (none_of refusal (cond (outside count 8) 2 0) e).1).0).1

-- the bounds of a good table
module _ (t : Table) (good : table_refusal t ≡ 0) where
  -- the tasks that the bounds are found for, and those of the choice
  abbrev plain : Tasks
  plain = tasks_of t t.interval []

  abbrev backup_at : ℕ → ℕ
  backup_at k = (record_at t.records k).backup

  abbrev pub limit_for : Rule → ℕ → ℕ → ℕ
  limit_for rule place q = limit_of (bears rule plain place q) backup_at t.count

  -- the limit kept for a record and a fault priority that it can have
  pub limit-kept : (rule : Rule) (place q : ℕ) → place < t.count → q ≤ (record_at t.records place).priority → get_or (found_bounds rule t).limits (9 * place + q) 0 ≡ limit_for rule place q
  unfolding found_bounds limit_at
  limit-kept rule place q below low =
      let few = (good-table t good).count.1 in
      let high = (good-at t.count (record_at t.records) (good-table t good).records place below).priority.1 in
      let row : (9 * place + q) / 9 ≡ place = omega arith in
      let column : (9 * place + q) % 9 ≡ q = omega arith in
      filled_at (λ k. limit_at rule t (k / 9) (k % 9)) (9 * t.count) (replicate 72 0) 0 (omega arith) (9 * place + q) (omega arith)
      ∙ ap₂ (limit_at rule t) row column
      ∙ simp (le-leb q (record_at t.records place).priority low)

  -- the largest backup of some records is below a limit exactly if it is borne
  pub borne-below : (rule : Rule) (place q : ℕ) (meant : ℕ → Bool)
      → ltb (most_below (λ k. cond (meant k) (backup_at k) 0) t.count) (limit_for rule place q) ≡ bears rule plain place q (most_below (λ k. cond (meant k) (backup_at k) 0) t.count)
  borne-below rule place q meant = limit-exact (bears rule plain place q) backup_at t.count (bears-falls rule plain place q) _ (largest-within (bears rule plain place q) backup_at t.count meant)

  -- a choice stays within the bounds exactly if each record is within its limits
  pub within-each : (rule : Rule) (choice : List ℕ) (missed : ℕ → Bool) → ((place : ℕ) → place < t.count → not (within_at rule (found_bounds rule t) choice place) ≡ missed place)
      → within_bounds rule (found_bounds rule t) choice ≡ not (some_below missed t.count)
  unfolding within_bounds found_bounds
  within-each rule choice missed each = ap not (some-agree t.count each)
