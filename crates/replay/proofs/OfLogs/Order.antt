-- The refusals of a log and of a replay are given in the requests' order, a log's by the rules read over positions in it. Assumes nothing.
use Rattle.std.proofs.Common.{◌≡◌, ℕ, zero, suc, ◌+◌, ◌/◌, ◌%◌, ◌^◌, ◌<◌, ◌≤◌, true, false, eqb, ◌⊎◌, List, ◌∷◌, ◌++◌, length, refl, inl, inr, div-lt_iff_lt-mul, one-mul, le-div_iff_mul-le, arith, pow_pos, shr-shr, eq-eqb}
use native.Mathlib.Decide.{ℕ_discrete}
use borrow.Author.Tests.{eqb-false, not-true}
use lib.Count.{leading_top}
use Rattle.places.specs.Places.{joined_below}
use Rattle.places.specs.Refusals.{or_else, Row, row, InOrder}
use Rattle.places.proofs.Tells.{Tells, fails, tells, or-tells, not-tells, eqb_tells}
use Rattle.places.proofs.Some.{some-tells-below}
use Rattle.places.proofs.Order.{Says, first, says_none, says_row, says-wider, says-joined, says-below, in_order}
use Rattle.sheet.specs.Layout.{record_at}
use Rattle.sheet.specs.Broken.{whole_rows}
use Rattle.sheet.specs.Rules.{whole_sheet_refusal}
use Rattle.sheet.proofs.Order.{whole-positive, whole_says}
use Rattle.replay.specs.declared.Machine.{Machine}
use Rattle.replay.specs.Ticks.Tick.{is_released, is_above, is_marked, has_other}
use Rattle.replay.specs.Ticks.Cells.{cell_at}
use Rattle.replay.specs.Logs.Rules.{is_strange, is_early, some_early, is_hasty, tick_refusal, ticks_refusal, log_refusal}
use Rattle.replay.specs.Logs.Positions.{ticks_of, releases_at, faults_at, Sooner, tick_rows, log_rows, LogNumber, ReplayNumber}
use Rattle.replay.specs.Logs.Totals.{machine_at}
use Rattle.replay.proofs.OfTicks.Binary.{twice}
use Rattle.replay.proofs.OfLogs.Going.{odd_refused, even-ticks}
use Rattle.replay.proofs.OfLogs.Kept.{released-below}
use Rattle.replay.proofs.OfLogs.Countdown.{sooner-tells}
use Rattle.replay.proofs.OfLogs.History.{refusal_at, ticks-first, count_same, wait-counts, gap-counts}

power-above : (n : ℕ) → n < 2 ^ n
power-above zero = omega arith
power-above (suc n) = omega (arith, twice n, power-above n)

-- some bit from n on is set exactly where what stands above n bits is not 0
above-tells : (x n : ℕ) → Tells ((slot : ℕ) × (n ≤ slot) × (is_released x slot ≡ true)) (is_above x n)
unfolding is_above is_released
above-tells x n = tells (is_above x n) some (λ e w. omega (arith, released-below x n w.0 e w.2, w.1))
  where
    some : is_above x n ≡ true → (slot : ℕ) × (n ≤ slot) × (is_released x slot ≡ true)
    some e =
        let high : x / 2 ^ n ≡ 0 → ⊥ = eqb-false (x / 2 ^ n) 0 (not-true (eqb (x / 2 ^ n) 0) e) in
        let top = leading_top (x / 2 ^ n) (x / 2 ^ n) (omega arith) (power-above (x / 2 ^ n)) in
        let low : 1 ≤ x / 2 ^ n / 2 ^ top.0 = (le-div_iff_mul-le (pow_pos top.0)).1 (omega (arith, one-mul (2 ^ top.0), top.2)) in
        let one : x / 2 ^ n / 2 ^ top.0 < 2 = (div-lt_iff_lt-mul (pow_pos top.0)).1 (omega (arith, twice top.0, top.3)) in
        (n + top.0, omega arith, eq-eqb (x / 2 ^ (n + top.0) % 2) 1 (omega (arith, shr-shr x n top.0)))

pub log-positive : (r : ℕ) → LogNumber r → 0 < r
log-positive r k = omega arith

-- 14 is tried before what the rest says
pub length-first : (over : ℕ) {rows : List Row} {rest whole : ℕ} → (over ≡ 0 → whole ≡ rest) → ((over ≡ 0 → ⊥) → whole ≡ 14) → Says LogNumber rows rest → Says LogNumber (row 14 (over ≡ 0 → ⊥) ∷ rows) whole
length-first over {rows} {rest} {whole} even odd says = go (ℕ_discrete over 0)
  where
    go : Dec (over ≡ 0) → Says LogNumber (row 14 (over ≡ 0 → ⊥) ∷ rows) whole
    go (yes e) = rw (even e) (says_row {b = false} {number = 14} (omega arith) (fails (λ o. o e)) (λ n. says))
    go (no o) = rw (odd o) (first {r = 14} (omega arith) (inl (refl, o)))

module _ (m : Machine) (log : List ℕ) (free : (slot : ℕ) → slot < 8 → (cell_at m.cells slot).wait ≡ 0) (calm : m.gap ≡ 0) where
  abbrev rows : ℕ → List Row
  rows = tick_rows m.count m.interval (record_at m.tasks) log

  strange-tells : (time : ℕ) → Tells (((slot : ℕ) × (m.count ≤ slot) × (is_released (releases_at log time) slot ≡ true)) ⊎ (faults_at log time % 128 ≡ 0 → ⊥)) (is_strange (machine_at m log time).count (releases_at log time) (faults_at log time))
  unfolding is_strange has_other
  strange-tells time =
      rw (count_same m log time) (or-tells (above-tells (releases_at log time) m.count) (not-tells (eqb_tells (faults_at log time % 128) 0)))

  early-tells : (time : ℕ) → Tells ((slot : ℕ) × (slot < 8) × Sooner (λ t. is_released (releases_at log t) slot) (record_at m.tasks slot).period time) (some_early (releases_at log time) (cell_at (machine_at m log time).cells))
  unfolding some_early is_early
  early-tells time =
      some-tells-below 8 (λ slot below. rw (wait-counts m log slot below (free slot below) time) (sooner-tells (λ t. is_released (releases_at log t) slot) (record_at m.tasks slot).period time))

  hasty-tells : (time : ℕ) → Tells (Sooner (λ t. is_marked (faults_at log t)) m.interval time) (is_hasty (machine_at m log time).gap (faults_at log time))
  unfolding is_hasty
  hasty-tells time = rw (gap-counts m log calm time) (sooner-tells (λ t. is_marked (faults_at log t)) m.interval time)

  tick-says : (time : ℕ) → Says LogNumber (rows time) (refusal_at m log time)
  unfolding tick_rows tick_refusal
  tick-says time =
      says_row (omega arith) (strange-tells time) (λ plain. says_row (omega arith) (early-tells time) (λ late. says_row (omega arith) (hasty-tells time) (λ spaced. says_none)))

  -- what the refusal of its ticks says of their rows
  pub ticks-say : Says LogNumber (joined_below rows (ticks_of log)) (ticks_refusal m log)
  ticks-say = rw (ticks-first m log) (says-below log-positive rows (refusal_at m log) tick-says (ticks_of log))

  -- what a log's refusal says of its rows
  pub log-says : Says LogNumber (log_rows m.count m.interval (record_at m.tasks) log) (log_refusal m log)
  log-says = length-first (length log % 2) (even-ticks m log) (odd_refused m log) ticks-say

  -- a log's refusal is given in the order of its rows
  pub log-in-order : InOrder LogNumber (log_rows m.count m.interval (record_at m.tasks) log) (log_refusal m log)
  log-in-order = in_order log-positive log-says

replay-positive : (r : ℕ) → ReplayNumber r → 0 < r
replay-positive r (inl k) = whole-positive r k
replay-positive r (inr k) = log-positive r k

-- that of a start, or else of a log, is given in the order of the sheet's rows and then the log's
pub both-in-order : (sheet : List ℕ) {rows : List Row} {r : ℕ} → Says LogNumber rows r → InOrder ReplayNumber (whole_rows sheet ++ rows) (or_else (whole_sheet_refusal sheet) r)
both-in-order sheet says = in_order replay-positive (says-joined replay-positive (whole_rows sheet) _ (says-wider (λ r k. inl k) (whole_says sheet)) (says-wider (λ r k. inr k) says))
