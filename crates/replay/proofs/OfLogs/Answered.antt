-- What `start`, `replay` and `check` answer, from what their parts answered. Assumes nothing.
use Rattle.std.proofs.Common.{◌≡◌, ℕ, ◌%◌, Bool, true, false, cond, eqb, List, length, sym, refl, ap, ◌∙◌, eq-eqb, ne_eqb}
use Rattle.places.specs.Places.{one_if, count_below}
use Rattle.places.proofs.Refusals.{next-of}
use Rattle.std.specs.Prelude.{Ok, Err}
use Rattle.places.specs.declared.refusal.Refusal.{Refusal}
use Rattle.places.specs.Answered.{number_of}
use Rattle.places.specs.Answered as said
use Rattle.places.proofs.Answered.{broken_of, told_number}
use Rattle.sheet.specs.declared.Table.{Table}
use Rattle.sheet.specs.Layout.{table_of}
use Rattle.sheet.specs.Rules.{whole_sheet_refusal}
use Rattle.sheet.specs.Answers.{whole_answer}
use Rattle.sheet.proofs.Told.{whole-told, whole-known}
use Rattle.replay.specs.declared.Counts.{Counts}
use Rattle.replay.specs.declared.Machine.{Machine}
use Rattle.replay.specs.declared.Run.{Run}
use Rattle.replay.specs.Ticks.Cells.{cell_at, is_ready}
use Rattle.replay.specs.Ticks.Counts.{no_counts, unfinished_in, counts_from}
use Rattle.replay.specs.Ticks.Machines.{machine_of, no_machine, IsTied, tied, counts_of}
use Rattle.replay.specs.Logs.Over.{ran_over}
use Rattle.replay.specs.Logs.Rules.{log_refusal}
use Rattle.replay.specs.Logs.Shown.{log_in, supplied_refusal}
use Rattle.replay.specs.Logs.Answers.{start_answer, go_on_answer, replay_refusal, replay_answer}
use Rattle.replay.proofs.OfTicks.Ready.{started-tied, none-tied, tied-same}

module _ (sheet : List ℕ) where
  pub start-refused : {e : Refusal} {number : ℕ} (none : Machine) → Err e ≡ said.answered (whole_answer sheet).refusal (whole_answer sheet).table → number ≡ number_of e → none ≡ no_machine
      → record { refusal = number; machine = none } ≡ start_answer sheet
  unfolding start_answer whole_answer
  start-refused none read is e =
      simp (is ∙ told_number _ _ (whole-known sheet) read, ne_eqb (whole_sheet_refusal sheet) 0 (broken_of _ _ read), e)

  pub start-passed : {table : Table} (m : Machine) → Ok table ≡ said.answered (whole_answer sheet).refusal (whole_answer sheet).table → m ≡ machine_of table → record { refusal = 0; machine = m } ≡ start_answer sheet
  unfolding start_answer
  start-passed m read e =
      let told = whole-told sheet read in
      simp (told.0, e ∙ ap machine_of told.1)

-- every machine that is started keeps its ready priorities
pub start-tied : (sheet : List ℕ) → IsTied (start_answer sheet).machine
unfolding start_answer
start-tied sheet = go (eqb (whole_sheet_refusal sheet) 0)
  where
    go : (b : Bool) → IsTied (cond b (machine_of (table_of sheet)) no_machine)
    go true = started-tied (table_of sheet)
    go false = none-tied

-- a machine of zeros has counted nothing
pub none-counted : counts_of no_machine ≡ no_counts
unfolding counts_of counts_from unfinished_in count_below cell_at is_ready one_if
none-counted = refl

module _ (sheet log : List ℕ) (started : Run) (start : started ≡ start_answer sheet) where
  start-refusal : started.refusal ≡ whole_sheet_refusal sheet
  unfolding start_answer
  start-refusal = ap (λ (r : Run). r.refusal) start

  module _ (passed : started.refusal ≡ 0) where
    good : whole_sheet_refusal sheet ≡ 0
    good = sym start-refusal ∙ passed

    pub machine-started : started.machine ≡ machine_of (table_of sheet)
    unfolding start_answer
    machine-started = ap (λ (r : Run). r.machine) start ∙ ap (λ (b : Bool). cond b (machine_of (table_of sheet)) no_machine) (eq-eqb (whole_sheet_refusal sheet) 0 good)

    module _ (run : Run) (gone : run ≡ go_on_answer started.machine log) where
      answered : run ≡ go_on_answer (machine_of (table_of sheet)) log
      answered = gone ∙ ap (λ (m : Machine). go_on_answer m log) machine-started

      pick-counts : (b : Bool) (m : Machine) → counts_of (cond b m no_machine) ≡ cond b (counts_of m) no_counts
      pick-counts true m = refl
      pick-counts false m = none-counted

      pub replay-gone : (counts : Counts) → counts ≡ counts_of run.machine → record { refusal = run.refusal; counts = counts } ≡ replay_answer sheet log
      unfolding replay_answer replay_refusal go_on_answer
      replay-gone counts counted =
          let m = machine_of (table_of sheet) in
          let refusal : run.refusal ≡ log_refusal m log = ap (λ (r : Run). r.refusal) answered in
          let said : counts ≡ cond (eqb (log_refusal m log) 0) (counts_of (ran_over m log)) no_counts = counted ∙ ap (λ (r : Run). counts_of r.machine) answered ∙ pick-counts (eqb (log_refusal m log) 0) (ran_over (tied m) log) ∙ ap (λ (m' : Machine). cond (eqb (log_refusal m log) 0) (counts_of (ran_over m' log)) no_counts) (tied-same m (started-tied (table_of sheet))) in
          simp (next-of (log_refusal m log) good) (λ i. record { refusal = refusal i; counts = said i })

-- the refusal of a record: 14, or that of the log it contains
module _ (m : Machine) (supplied : List ℕ) where
  pub supplied-cut : (length supplied % 3 ≡ 0 → ⊥) → supplied_refusal m supplied ≡ 14
  unfolding supplied_refusal
  supplied-cut cut = simp (ne_eqb (length supplied % 3) 0 cut)

  pub supplied-log : length supplied % 3 ≡ 0 → supplied_refusal m supplied ≡ log_refusal m (log_in supplied)
  unfolding supplied_refusal
  supplied-log whole = simp (eq-eqb (length supplied % 3) 0 whole)
