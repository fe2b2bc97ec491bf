-- The ready priorities: kept through a tick in which no job comes or goes, those of the jobs after every tick, and of no weight in what is refused. Assumes nothing.
use Rattle.std.proofs.Common.{◌≡◌, ℕ, zero, suc, ◌+◌, ◌-◌, ◌%◌, ◌<◌, Bool, true, false, cond, not, ◌&&◌, ◌||◌, eqb, List, [], ◌∷◌, length, sym, refl, ap, ◌∙◌, ap₂, arith, ne_eqb, eqb-true}
use mathlib.Core.Path.{fun_ext}
use borrow.Author.Tests.{eqb-false, not-false}
use lib.Count.{count_leading_zeros}
use Rattle.places.specs.Places.{some_below, one_if, highest_below}
use Rattle.places.specs.Refusals.{or_else}
use Rattle.places.proofs.Tells.{neither}
use Rattle.places.proofs.Agree.{some-agree}
use Rattle.places.proofs.Counted.{count-zero}
use Rattle.sheet.specs.declared.Record.{Record}
use Rattle.sheet.specs.declared.Table.{Table}
use Rattle.sheet.specs.Layout.{record_at}
use Rattle.replay.specs.declared.Cell.{Cell}
use Rattle.replay.specs.declared.Tally.{Tally}
use Rattle.replay.specs.declared.Machine.{Machine}
use Rattle.replay.specs.Ticks.Tick.{is_marked}
use Rattle.replay.specs.Ticks.Cells.{no_cell, cell_at, is_ready}
use Rattle.replay.specs.Ticks.Runner.{priority_of, is_at, top_priority, top_backup, runner}
use Rattle.replay.specs.Ticks.Ready.{bits_of, ready_priorities}
use Rattle.replay.specs.Ticks.Step.{runs, worked, struck, is_last, is_missed, ended}
use Rattle.replay.specs.Ticks.Counts.{cell_of, gains}
use Rattle.replay.specs.Ticks.Machines.{machine_of, no_machine, IsTied, tied, cells_entered, runner_of, cells_ran, cells_ended, tick_gains, tick}
use Rattle.replay.specs.Logs.Over.{ran_over}
use Rattle.replay.specs.Logs.Rules.{tick_refusal, ticks_refusal, log_refusal}
use Rattle.replay.proofs.OfTicks.Binary.{highest-zeros}
use Rattle.replay.proofs.OfTicks.Eight.{cell-eight}
use Rattle.replay.proofs.OfTicks.Struck.{others-kept, runner-changed}
use Rattle.replay.proofs.OfTicks.Ticked.{ran-at}

-- two cells are alike to the ready priorities: a job is ready in both or in neither, at the same priority
record Alike (a b : Cell) : Type 0 where
  backup : a.is_backup ≡ b.is_backup
  ready : is_ready a ≡ is_ready b

alike_same : {a b : Cell} → a ≡ b → Alike a b
alike_same e = record { backup = ap (λ (c : Cell). c.is_backup) e; ready = ap is_ready e }

alike-on : {a b c : Cell} → Alike a b → Alike b c → Alike a c
alike-on p q = record { backup = p.backup ∙ q.backup; ready = p.ready ∙ q.ready }

highest-agree : {f g : ℕ → Bool} (n : ℕ) → ((k : ℕ) → k < n → f k ≡ g k) → highest_below f n ≡ highest_below g n
unfolding highest_below
highest-agree zero same = refl
highest-agree (suc n) same = ap₂ (λ (b : Bool) (k : ℕ). cond b (n + 1) k) (same n (omega arith)) (highest-agree n (λ k below. same k (omega arith)))

runner-alike : (tasks : List Record) (a b : List Cell) → ((slot : ℕ) → slot < 8 → Alike (cell_at a slot) (cell_at b slot)) → runner (record_at tasks) (cell_at a) ≡ runner (record_at tasks) (cell_at b)
unfolding runner top_priority top_backup is_at priority_of
runner-alike tasks a b each =
    ap₂ (λ (backup : ℕ → ℕ) (top : ℕ). cond (eqb (backup top) 0) top (backup top))
    (fun_ext (λ priority. highest-agree 8 (λ slot low. ap₂ (λ (backup ready : Bool). backup && (ready && eqb (cond backup (record_at tasks slot).fault_priority (slot + 1)) priority)) (each slot low).backup (each slot low).ready)))
    (ap (λ (t : ℕ → Bool). highest_below t 8)
    (fun_ext (λ below. some-agree 8 (λ slot low. ap₂ (λ (backup ready : Bool). ready && eqb (cond backup (record_at tasks slot).fault_priority (slot + 1)) (below + 1)) (each slot low).backup (each slot low).ready))))

-- a job that has work left after its tick was ready before it
still-ready : (cell : Cell) → eqb (worked cell).left 0 ≡ false → Alike cell (worked cell)
unfolding is_ready
still-ready cell more = record { backup = refl; ready = ap not (ne_eqb cell.left 0 (λ e. eqb-false (cell.left - 1) 0 more (omega arith)) ∙ sym more) }

-- a job that is not missed is as ready after the tick's end as before it
end-alike : (cell : Cell) → is_missed cell ≡ false → Alike cell (ended cell)
unfolding is_missed is_ready ended
end-alike cell kept = record { backup = refl; ready = go (is_last cell) kept }
  where
    go : (last : Bool) → (last && not (eqb cell.left 0)) ≡ false → not (eqb cell.left 0) ≡ not (eqb (cond last 0 cell.left) 0)
    go true e = e
    go false e = refl

module _ (m : Machine) (releases : ℕ) where
  module _ (faults : ℕ) (unmarked : is_marked faults ≡ false) (unfinished : (tick_gains m releases faults).finished ≡ 0) (unmissed : (tick_gains m releases faults).missed ≡ 0) where
    -- the task that runs is not done
    not_done : (slot : ℕ) → slot + 1 ≡ runner_of m releases → eqb (cell_at (cells_ran m releases faults) slot).left 0 ≡ false
    unfolding tick_gains gains one_if cell_of
    not_done slot is = go (eqb (cell_at (cells_ran m releases faults) slot).left 0) (sym there ∙ unfinished)
      where
        some : eqb (runner_of m releases) 0 ≡ false
        some = ne_eqb (runner_of m releases) 0 (λ e. omega arith)

        before : runner_of m releases - 1 ≡ slot
        before = omega arith

        there : (tick_gains m releases faults).finished ≡ cond (eqb (cell_at (cells_ran m releases faults) slot).left 0) 1 0
        there = ap₂ (λ (b : Bool) (k : ℕ). cond (not b && eqb (cond b no_cell (cell_at (cells_ran m releases faults) k)).left 0) 1 0) some before

        go : (b : Bool) → ◌≡◌ {A = ℕ} (cond b 1 0) 0 → b ≡ false
        go true e = absurd (omega arith)
        go false e = refl

    ran-alike : (slot : ℕ) → slot < 8 → Alike (cell_at (cells_entered m releases) slot) (cell_at (cells_ran m releases faults) slot)
    unfolding runs
    ran-alike slot low = go (eqb (slot + 1) (runner_of m releases)) refl
      where
        cell : Cell
        cell = cell_at (cells_entered m releases) slot

        go : (b : Bool) → eqb (slot + 1) (runner_of m releases) ≡ b → Alike (cell_at (cells_entered m releases) slot) (cell_at (cells_ran m releases faults) slot)
        go false e = alike_same (sym (ran-at m releases faults slot low ∙ others-kept (record_at m.tasks) (is_marked faults) (runner_of m releases) (cell_at (cells_entered m releases)) slot e))
        go true e =
            let now : cell_at (cells_ran m releases faults) slot ≡ worked cell =
            ran-at m releases faults slot low ∙ runner-changed (record_at m.tasks) (is_marked faults) (runner_of m releases) (cell_at (cells_entered m releases)) slot e
            ∙ ap (λ (b : Bool). cond b (struck (record_at m.tasks slot) (worked cell)) (worked cell)) unmarked in
            alike-on (still-ready cell (sym (ap (λ (c : Cell). eqb c.left 0) now) ∙ not_done slot (eqb-true _ _ e))) (alike_same (sym now))

    -- where no job is struck, done or dropped, each cell is alike before and after
    gone-alike : (slot : ℕ) → slot < 8 → Alike (cell_at (cells_entered m releases) slot) (cell_at (cells_ended m releases faults) slot)
    unfolding tick_gains gains
    gone-alike slot low = alike-on (ran-alike slot low) (alike-on (end-alike _ (count-zero (λ slot. is_missed (cell_at (cells_ran m releases faults) slot)) 8 unmissed slot low)) (alike_same (sym (cell-eight _ slot low))))

    -- and so does the task that runs
    pub none_other : runner (record_at m.tasks) (cell_at (cells_entered m releases)) ≡ runner (record_at m.tasks) (cell_at (cells_ended m releases faults))
    none_other = runner-alike m.tasks (cells_entered m releases) (cells_ended m releases faults) gone-alike

-- "the highest is found by counting leading zeros"
pub highest-priority : (tasks : List Record) (cells : List Cell) → 8 - count_leading_zeros 8 (ready_priorities tasks cells) ≡ top_priority (record_at tasks) (cell_at cells)
unfolding ready_priorities top_priority
highest-priority tasks cells = highest-zeros _ 8

-- a job is struck, done or dropped
abbrev pub has_changed : Bool → Tally → Bool
has_changed is_struck more = is_struck || not (eqb more.finished 0) || not (eqb more.missed 0)

pub none-changed : (is_struck : Bool) (more : Tally) → has_changed is_struck more ≡ false → (is_struck ≡ false) × (more.finished ≡ 0) × (more.missed ≡ 0)
none-changed is_struck more none =
    let last = neither (is_struck || not (eqb more.finished 0)) _ none in
    let first = neither is_struck _ last.0 in
    (first.0, eqb-true _ _ (not-false _ first.1), eqb-true _ _ (not-false _ last.1))

-- the priorities of a machine before its first tick, and of a machine of zeros, are none
pub started-tied : (t : Table) → IsTied (machine_of t)
unfolding machine_of ready_priorities bits_of some_below is_at cell_at is_ready one_if
started-tied t = refl

pub none-tied : IsTied no_machine
unfolding ready_priorities bits_of some_below is_at cell_at is_ready one_if
none-tied = refl

module _ (m : Machine) where
  pub tied-tied : IsTied (tied m)
  unfolding tied
  tied-tied = refl

  pub tied-same : IsTied m → tied m ≡ m
  unfolding tied
  tied-same keeps = λ i. record { count = m.count; interval = m.interval; tasks = m.tasks; cells = m.cells; ready = sym keeps i; gap = m.gap; tally = m.tally }

  pub tick-tied : (r f : ℕ) → IsTied (tick m r f)
  unfolding tick
  tick-tied r f = refl

  -- what a tick comes to does not hang on the priorities that are handed in
  tick-any : (r f : ℕ) → tick (tied m) r f ≡ tick m r f
  unfolding tied tick tick_gains cells_ran runner_of cells_entered
  tick-any r f = refl

  ticks-any : (log : List ℕ) → ticks_refusal (tied m) log ≡ ticks_refusal m log
  unfolding ticks_refusal tick_refusal tied
  ticks-any [] = refl
  ticks-any (r ∷ []) = refl
  ticks-any (r ∷ f ∷ log) = ap (λ (m' : Machine). or_else (tick_refusal m r f) (ticks_refusal m' log)) (tick-any r f)

  pub refusal-any : (log : List ℕ) → log_refusal (tied m) log ≡ log_refusal m log
  unfolding log_refusal
  refusal-any log = ap (λ (n : ℕ). cond (eqb (length log % 2) 0) n 14) (ticks-any log)

-- a log leads to a machine that keeps its priorities
pub ran-tied : (m : Machine) (log : List ℕ) → IsTied m → IsTied (ran_over m log)
unfolding ran_over
ran-tied m [] keeps = keeps
ran-tied m (r ∷ []) keeps = keeps
ran-tied m (r ∷ f ∷ log) keeps = ran-tied (tick m r f) log (tick-tied m r f)
