-- Request 7's demands in its own words, about the definitions that the promise of `check` cites. A record worked through is in Rows.antt. Assumes nothing.
use Rattle.std.proofs.Common.{◌≡◌, ℕ, zero, suc, ◌+◌, ◌-◌, ◌*◌, ◌/◌, ◌%◌, ◌<◌, ◌≤◌, Bool, true, false, cond, not, ◌&&◌, eqb, leb, ◌⊎◌, ◌↔◌, List, [], ◌∷◌, ◌++◌, length, get_or, sym, refl, ap, ◌∙◌, subst, inl, inr, arith, eq-eqb, ne_eqb, le-leb}
use native.Mathlib.Decide.{ℕ_discrete}
use borrow.Author.Tests.{lt-leb}
use Rattle.places.specs.Places.{joined_below, one_if}
use Rattle.places.specs.Refusals.{or_else, InOrder}
use Rattle.places.proofs.Order.{Says}
use Rattle.sheet.specs.Layout.{record_at, table_of}
use Rattle.sheet.specs.Rules.{whole_sheet_refusal}
use Rattle.sheet.specs.Broken.{whole_rows}
use Rattle.replay.specs.declared.Cell.{Cell}
use Rattle.replay.specs.declared.Tally.{Tally}
use Rattle.replay.specs.declared.Machine.{Machine}
use Rattle.replay.specs.declared.Checked.TheVariants.{Refused, Accepted, Differs}
use Rattle.replay.specs.Ticks.Cells.{no_cell, cell_at}
use Rattle.replay.specs.Ticks.Counts.{cell_of, gains}
use Rattle.replay.specs.Ticks.Machines.{machine_of, cells_entered, runner_of, tick_gains}
use Rattle.replay.specs.Logs.Rules.{ticks_refusal}
use Rattle.replay.specs.Logs.Shown.{log_in, shown, matching, supplied_refusal}
use Rattle.replay.specs.Logs.Answers.{replay_refusal, check_refusal, check_answer}
use Rattle.replay.specs.Logs.Positions.{ticks_of, releases_at, faults_at, tick_rows, supplied_rows, LogNumber, ReplayNumber}
use Rattle.replay.proofs.OfLogs.Going.{log-length, even-ticks}
use Rattle.replay.proofs.OfTicks.Chosen.{runner-at-most}
use Rattle.replay.proofs.OfLogs.History.{releases-shift, faults-shift}
use Rattle.replay.proofs.OfLogs.Matched.{Shows, match-at-most, match-same, match-other, compared-refused, compared-accepted, compared-differs, accepted-only, differs-only, refused-only}
use Rattle.replay.proofs.OfLogs.Answered.{supplied-cut, supplied-log}
use Rattle.replay.proofs.OfLogs.Order.{length-first, ticks-say, both-in-order}
use Rattle.replay.proofs.Demands.{started-free}

-- a tick is counted as a byte shows it
pub record CountedAs (byte : ℕ) (t : Tally) : Type 0 where
  pub idle : t.idle ≡ one_if (eqb byte 0)
  pub backup : t.backups ≡ one_if (leb 128 byte)
  pub first : t.first_attempts ≡ one_if (not (eqb byte 0) && not (leb 128 byte))

-- What a tick shows
module _ (m : Machine) (releases : ℕ) where
  abbrev is_backup : Bool
  is_backup = (cell_of (cells_entered m releases) (runner_of m releases)).is_backup

  shows-as : (b : Bool) → is_backup ≡ b → shown m releases ≡ runner_of m releases + cond b 128 0
  unfolding shown
  shows-as b e = ap (λ (b : Bool). runner_of m releases + cond b 128 0) e

  -- "0 for idle"
  pub shows-idle : runner_of m releases ≡ 0 → shown m releases ≡ 0
  unfolding cell_of
  shows-idle idle = omega (arith, idle, shows-as false (ap (λ (n : ℕ). (cell_of (cells_entered m releases) n).is_backup) idle))

  module _ (slot : ℕ) (runs : runner_of m releases ≡ slot + 1) where
    is-job : is_backup ≡ (cell_at (cells_entered m releases) slot).is_backup
    unfolding cell_of
    is-job =
        let other : eqb (slot + 1) 0 ≡ false = ne_eqb (slot + 1) 0 (λ e. omega arith) in
        let here : slot + 1 - 1 ≡ slot = omega arith in
        ap (λ (n : ℕ). (cell_of (cells_entered m releases) n).is_backup) runs ∙ (λ i. (cond (other i) no_cell (cell_at (cells_entered m releases) (here i))).is_backup)

    -- "the priority of the task that ran"
    pub shows_first : (cell_at (cells_entered m releases) slot).is_backup ≡ false → shown m releases ≡ slot + 1
    shows_first first = omega (arith, runs, shows-as false (is-job ∙ first))

    -- "with the top bit set for a backup"
    pub shows-backup : (cell_at (cells_entered m releases) slot).is_backup ≡ true → shown m releases ≡ 128 + (slot + 1)
    shows-backup backup = omega (arith, runs, shows-as true (is-job ∙ backup))

  at_most : runner_of m releases ≤ 8
  unfolding runner_of
  at_most = runner-at-most (record_at m.tasks) (cell_at (cells_entered m releases))

  -- a byte that no tick can show, as 9 or 128, is no refusal: it differs
  pub shows-sense : (shown m releases ≤ 8) ⊎ ((129 ≤ shown m releases) × (shown m releases ≤ 136))
  shows-sense = go (ℕ_discrete (runner_of m releases) 0) is_backup refl
    where
      go : Dec (runner_of m releases ≡ 0) → (b : Bool) → is_backup ≡ b → (shown m releases ≤ 8) ⊎ ((129 ≤ shown m releases) × (shown m releases ≤ 136))
      go (yes idle) b e = inl (omega (arith, shows-idle idle))
      go (no busy) true e = inr (let low = at_most in let is = shows-as true e in (omega arith, omega arith))
      go (no busy) false e = inl (omega (arith, shows-as false e, at_most))

  -- a tick shows what it counts as, and so a struck one what ran in it: whatever the fault byte is
  pub shows-struck : (faults : ℕ) → CountedAs (shown m releases) (tick_gains m releases faults)
  unfolding tick_gains gains
  shows-struck faults =
      let tests = go (ℕ_discrete (runner_of m releases) 0) is_backup refl in
      record { idle = ap one_if (sym tests.0); backup = ap one_if (sym tests.1); first = ap one_if (neither (eqb (runner_of m releases) 0) is_backup ∙ (λ i. not (sym tests.0 i) && not (sym tests.1 i))) }
    where
      neither : (a b : Bool) → (not a && not b) ≡ (not a && not (not a && b))
      neither true b = refl
      neither false b = refl

      go : Dec (runner_of m releases ≡ 0) → (b : Bool) → is_backup ≡ b → (eqb (shown m releases) 0 ≡ eqb (runner_of m releases) 0) × (leb 128 (shown m releases) ≡ (not (eqb (runner_of m releases) 0) && is_backup))
      go (yes idle) b e = (ap (λ (n : ℕ). eqb n 0) (shows-idle idle ∙ sym idle), ap (leb 128) (shows-idle idle) ∙ sym (ap (λ (a : Bool). not a && is_backup) (eq-eqb (runner_of m releases) 0 idle)))
      go (no busy) b e = (
        ne_eqb (shown m releases) 0 (λ z. omega (arith, busy, z, shows-as b e)) ∙ sym (ne_eqb (runner_of m releases) 0 busy),
        top b e ∙ sym (λ i. not (ne_eqb (runner_of m releases) 0 busy i) && e i),
      )
        where
          top : (b : Bool) → is_backup ≡ b → leb 128 (shown m releases) ≡ b
          top true e = le-leb 128 (shown m releases) (omega (arith, shows-as true e))
          top false e = lt-leb 128 (shown m releases) (omega (arith, shows-as false e, at_most))

-- the log that a record contains has as many ticks as the record
pub log-ticks : (supplied : List ℕ) → ticks_of (log_in supplied) ≡ length supplied / 3
log-ticks supplied = omega (arith, log-length supplied)

-- and of each tick the record's first two bytes
pub log-bytes : (supplied : List ℕ) (time : ℕ) → time < length supplied / 3 → (releases_at (log_in supplied) time ≡ get_or supplied (3 * time) 0) × (faults_at (log_in supplied) time ≡ get_or supplied (3 * time + 1) 0)
unfolding log_in releases_at faults_at
log-bytes [] time below = absurd (omega arith)
log-bytes (r ∷ []) time below = absurd (omega arith)
log-bytes (r ∷ f ∷ []) time below = absurd (omega arith)
log-bytes (r ∷ f ∷ ran ∷ supplied) zero below = (refl, refl)
log-bytes (r ∷ f ∷ ran ∷ supplied) (suc time) below =
    let rest = log-bytes supplied time (omega arith) in
    let thrice : suc (suc (suc (3 * time))) ≡ 3 * suc time = omega arith in
    let more : suc (suc (suc (3 * time + 1))) ≡ 3 * suc time + 1 = omega arith in (
      releases-shift r f (log_in supplied) time ∙ rest.0 ∙ ap (λ (n : ℕ). get_or (r ∷ f ∷ ran ∷ supplied) n 0) thrice,
      faults-shift r f (log_in supplied) time ∙ rest.1 ∙ ap (λ (n : ℕ). get_or (r ∷ f ∷ ran ∷ supplied) n 0) more,
    )

module _ (sheet supplied : List ℕ) where
  abbrev start : Machine
  start = machine_of (table_of sheet)

  -- "Accept a record exactly if every tick shows what Ask 1's rules say"
  pub accepted-exactly : (check_answer sheet supplied ≡ Accepted) ↔ ((check_refusal sheet supplied ≡ 0) × ((time : ℕ) → time < length supplied / 3 → Shows start supplied time))
  unfolding check_answer
  accepted-exactly = (
    λ e. (let w = accepted-only _ _ _ e in (w.0, λ time below. match-same start supplied time (omega (arith, w.1)))),
    λ w. compared-accepted _ _ _ w.0 (go w.1 (ℕ_discrete (matching start supplied) (length supplied / 3))),
  )
    where
      go : ((time : ℕ) → time < length supplied / 3 → Shows start supplied time) → Dec (matching start supplied ≡ length supplied / 3) → matching start supplied ≡ length supplied / 3
      go all (yes e) = e
      go all (no e) = let more : matching start supplied < length supplied / 3 = omega (arith, match-at-most start supplied, e) in absurd (match-other start supplied more (all (matching start supplied) more))

  -- "otherwise give the first tick, from 0, that differs": the tick given differs and none before it does
  pub differs-exactly : (tick : ℕ)
      → (check_answer sheet supplied ≡ Differs tick)
      ↔ ((check_refusal sheet supplied ≡ 0) × (tick < length supplied / 3) × (Shows start supplied tick → ⊥) × ((earlier : ℕ) → earlier < tick → Shows start supplied earlier))
  unfolding check_answer
  differs-exactly tick = (
    λ e.
        let w = differs-only _ _ _ tick e in
        let more : matching start supplied < length supplied / 3 = omega (arith, match-at-most start supplied, w.2) in
        (w.0, omega (arith, w.1), λ shows. match-other start supplied more (subst (Shows start supplied) (sym w.1) shows), λ earlier below. match-same start supplied earlier (omega (arith, w.1))),
    λ w.
        let is = first w.2 w.3 w.1 in
        compared-differs _ _ _ w.0 (λ all. omega (arith, w.1, is, all)) ∙ ap Differs is,
  )
    where
      first : (Shows start supplied tick → ⊥) → ((earlier : ℕ) → earlier < tick → Shows start supplied earlier) → tick < length supplied / 3 → matching start supplied ≡ tick
      first other same below = go (ℕ_discrete (matching start supplied) tick) (ℕ_discrete (matching start supplied - tick) 0)
        where
          go : Dec (matching start supplied ≡ tick) → Dec (matching start supplied - tick ≡ 0) → matching start supplied ≡ tick
          go (yes e) more = e
          go (no e) (yes low) = absurd (match-other start supplied (omega arith) (same (matching start supplied) (omega (arith, e))))
          go (no e) (no high) = absurd (other (match-same start supplied tick (omega (arith, high))))

  -- and what is refused is neither
  pub refused-exactly : (number : ℕ) → (check_answer sheet supplied ≡ Refused number) ↔ ((check_refusal sheet supplied ≡ number) × (number ≡ 0 → ⊥))
  unfolding check_answer
  refused-exactly number = (
    λ e. (let w = refused-only _ _ _ number e in (w.0, λ z. w.1 (w.0 ∙ z))),
    λ w. compared-refused _ _ _ (λ z. w.1 (sym w.0 ∙ z)) ∙ ap Refused w.0,
  )

  -- "Refusals, over the whole record first: those of Ask 1 and 19": on a record of whole ticks they are those of a replay of the log that it contains
  pub refusals-of-request-1 : length supplied % 3 ≡ 0 → check_refusal sheet supplied ≡ replay_refusal sheet (log_in supplied)
  unfolding check_refusal replay_refusal
  refusals-of-request-1 whole = ap (or_else (whole_sheet_refusal sheet)) (supplied-log start supplied whole)

  -- what the refusal of the record says of it
  supplied-says : Says LogNumber (supplied_rows (table_of sheet).count (table_of sheet).interval (record_at start.tasks) supplied) (supplied_refusal start supplied)
  unfolding machine_of
  supplied-says =
      length-first (length supplied % 3) (λ whole. supplied-log start supplied whole ∙ even-ticks start (log_in supplied) (omega (arith, log-length supplied))) (supplied-cut start supplied)
      (subst (λ (n : ℕ). Says LogNumber (joined_below (tick_rows (table_of sheet).count (table_of sheet).interval (record_at start.tasks) (log_in supplied)) n) (ticks_refusal start (log_in supplied))) (log-ticks supplied)
      (ticks-say start (log_in supplied) (λ slot below. ap (λ (c : Cell). c.wait) (started-free slot below)) refl))

  -- the refusal is the first rule broken: the sheet's own, 19, "14 now for a length that is not a multiple of three", then 15, 16 and 17 in the first tick that breaks one, read over positions in the log that the record contains
  pub check-in-order : InOrder ReplayNumber (whole_rows sheet ++ supplied_rows (table_of sheet).count (table_of sheet).interval (record_at start.tasks) supplied) (check_refusal sheet supplied)
  unfolding check_refusal
  check-in-order = both-in-order sheet supplied-says
