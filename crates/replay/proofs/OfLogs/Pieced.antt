-- Bytes taken in pieces, of any number and any lengths, are answered as the whole is. Assumes nothing but, of a record, fewer than 2^64 ticks.
use Rattle.std.proofs.Common.{◌≡◌, ℕ, ◌+◌, ◌/◌, ◌%◌, ◌^◌, ◌<◌, Bool, true, false, cond, eqb, List, [], ◌∷◌, length, sym, refl, ap, ◌∙◌, zero-add, arith, eq-eqb, ne_eqb}
use native.Mathlib.Decide.{ℕ_discrete}
use Rattle.places.specs.Refusals.{or_else}
use Rattle.places.proofs.Refusals.{next-of, first_of, none_of}
use Rattle.sheet.specs.Layout.{table_of}
use Rattle.sheet.specs.Rules.{whole_sheet_refusal}
use Rattle.replay.specs.declared.Machine.{Machine}
use Rattle.replay.specs.declared.Following.{Following}
use Rattle.replay.specs.declared.Checked.{Checked}
use Rattle.replay.specs.declared.Checked.TheVariants.{Refused, Accepted, Differs}
use Rattle.replay.specs.Ticks.Counts.{no_counts}
use Rattle.replay.specs.Ticks.Machines.{machine_of, IsTied, counts_of}
use Rattle.replay.specs.Logs.Over.{ran_over}
use Rattle.replay.specs.Logs.Rules.{ticks_refusal, log_refusal}
use Rattle.replay.specs.Logs.Shown.{log_in, matching, supplied_refusal}
use Rattle.replay.specs.Logs.Answers.{start_answer, replay_refusal, replay_answer, compared, check_refusal, check_answer}
use Rattle.replay.specs.Logs.Pieces.{before_bytes, before_log, before_record, followed, tied_in, taken_answer, refusal_at, replayed_answer, checked_answer, all_taken, joined}
use Rattle.replay.proofs.OfLogs.Going.{log-length, even-ticks}
use Rattle.replay.proofs.OfLogs.Answered.{start-tied, machine-started}
use Rattle.replay.proofs.Records.{refusals-of-request-1}
use Rattle.replay.proofs.OfLogs.Stepped.{tied-in, tied-in-same, bytes-tied, pieces-joined}
use Rattle.replay.proofs.OfLogs.Followed.{start-stays, log-holds, record-holds, Judged, log-judged, record-judged, told_with, record-told}

-- What is kept once all bytes are taken that hold a log, with so many left over
record Ended (sheet : List ℕ) (is_record : Bool) (log : List ℕ) (left : ℕ) (g : Following) : Type 0 where
  stays : g.start ≡ whole_sheet_refusal sheet
  holds : g.holds ≡ left
  judged : whole_sheet_refusal sheet ≡ 0 → left ≡ 0 → Judged (before_bytes is_record (start_answer sheet)) log g

log-ended : (sheet log : List ℕ) → Ended sheet false log (length log % 2) (followed (before_log sheet) log)
unfolding before_log before_bytes start_answer
log-ended sheet log = record { stays = start-stays (before_log sheet) log; holds = log-holds (before_log sheet) refl refl log; judged = λ good whole. log-judged (before_log sheet) good refl refl log whole }

record-ended : (sheet supplied : List ℕ) → Ended sheet true (log_in supplied) (length supplied % 3) (followed (before_record sheet) supplied)
unfolding before_record before_bytes start_answer
record-ended sheet supplied = record { stays = start-stays (before_record sheet) supplied; holds = record-holds (before_record sheet) refl refl supplied; judged = λ good whole. record-judged (before_record sheet) good refl refl supplied whole }

-- the machine of a good sheet is what is started with
started : (sheet : List ℕ) → whole_sheet_refusal sheet ≡ 0 → (start_answer sheet).machine ≡ machine_of (table_of sheet)
unfolding start_answer
started sheet good = machine-started sheet [] (start_answer sheet) refl good

module _ {sheet : List ℕ} {is_record : Bool} {log : List ℕ} {left : ℕ} {g : Following} (end : Ended sheet is_record log left g) where
  abbrev start : Machine
  start = machine_of (table_of sheet)

  ticks-are : whole_sheet_refusal sheet ≡ 0 → left ≡ 0 → g.broken ≡ ticks_refusal start log
  unfolding before_bytes
  ticks-are good whole = (end.judged good whole).broken ∙ next-of _ refl ∙ ap (λ (m : Machine). ticks_refusal m log) (started sheet good)

  refusal_is : refusal_at g ≡ or_else (whole_sheet_refusal sheet) (cond (eqb left 0) (ticks_refusal start log) 14)
  unfolding refusal_at
  refusal_is = ap (λ (n : ℕ). or_else n (cond (eqb g.holds 0) g.broken 14)) end.stays ∙ go (ℕ_discrete (whole_sheet_refusal sheet) 0) (ℕ_discrete left 0)
    where
      go : Dec (whole_sheet_refusal sheet ≡ 0) → Dec (left ≡ 0) → or_else (whole_sheet_refusal sheet) (cond (eqb g.holds 0) g.broken 14) ≡ or_else (whole_sheet_refusal sheet) (cond (eqb left 0) (ticks_refusal start log) 14)
      go (no bad) whole = first_of (whole_sheet_refusal sheet) _ bad ∙ sym (first_of (whole_sheet_refusal sheet) _ bad)
      go (yes good) (yes whole) = ap (or_else (whole_sheet_refusal sheet)) (simp (eq-eqb g.holds 0 (end.holds ∙ whole), eq-eqb left 0 whole) (ticks-are good whole))
      go (yes good) (no cut) = ap (or_else (whole_sheet_refusal sheet)) (simp (ne_eqb g.holds 0 (λ e. cut (sym end.holds ∙ e)), ne_eqb left 0 cut))

  -- what is not refused: the sheet is good, the last tick whole, and no tick broke a rule
  module _ (passed : refusal_at g ≡ 0) where
    parts-passed : (whole_sheet_refusal sheet ≡ 0) × (cond (eqb left 0) (ticks_refusal start log) 14 ≡ 0)
    parts-passed = none_of (whole_sheet_refusal sheet) _ (sym refusal_is ∙ passed)

    whole-ticks : left ≡ 0
    whole-ticks = go (ℕ_discrete left 0)
      where
        go : Dec (left ≡ 0) → left ≡ 0
        go (yes whole) = whole
        go (no cut) = absurd (omega (arith, sym (ap (λ (b : Bool). cond b (ticks_refusal start log) 14) (ne_eqb left 0 cut)) ∙ parts-passed.1))

    none-refused : g.broken ≡ 0
    none-refused = ticks-are parts-passed.0 whole-ticks ∙ sym (ap (λ (b : Bool). cond b (ticks_refusal start log) 14) (eq-eqb left 0 whole-ticks)) ∙ parts-passed.1

    ran-all : g.machine ≡ ran_over start log
    unfolding before_bytes
    ran-all = (end.judged parts-passed.0 whole-ticks).machine none-refused ∙ ap (λ (m : Machine). ran_over m log) (started sheet parts-passed.0)

  -- the counts of the log, or zeros
  counted : (refusal : ℕ) → refusal_at g ≡ refusal → cond (eqb (refusal_at g) 0) (counts_of g.machine) no_counts ≡ cond (eqb refusal 0) (counts_of (ran_over start log)) no_counts
  counted refusal e = go (ℕ_discrete refusal 0)
    where
      go : Dec (refusal ≡ 0) → cond (eqb (refusal_at g) 0) (counts_of g.machine) no_counts ≡ cond (eqb refusal 0) (counts_of (ran_over start log)) no_counts
      go (yes passed) = simp (e, eq-eqb refusal 0 passed) (ap counts_of (ran-all (e ∙ passed)))
      go (no broken) = simp (e, ne_eqb refusal 0 broken)

  -- where the refusal is that of a replay of the log, the answer is its answer
  replayed-is : refusal_at g ≡ replay_refusal sheet log → replayed_answer g ≡ replay_answer sheet log
  unfolding replayed_answer replay_answer
  replayed-is e = λ i. record { refusal = e i; counts = counted (replay_refusal sheet log) e i }

-- all bytes of a log taken, the answer is that of `replay`
pub log-followed : (sheet log : List ℕ) → replayed_answer (followed (before_log sheet) log) ≡ replay_answer sheet log
unfolding replay_refusal log_refusal
log-followed sheet log = replayed-is (log-ended sheet log) (refusal_is (log-ended sheet log))

module _ (sheet supplied : List ℕ) where
  abbrev end : Following
  end = followed (before_record sheet) supplied

  record-refusal : refusal_at end ≡ check_refusal sheet supplied
  unfolding check_refusal supplied_refusal
  record-refusal =
      refusal_is (record-ended sheet supplied)
      ∙ sym (ap (λ (n : ℕ). or_else (whole_sheet_refusal sheet) (cond (eqb (length supplied % 3) 0) n 14)) (even-ticks (machine_of (table_of sheet)) (log_in supplied) (omega (arith, log-length supplied))))

  -- of a record of whole ticks the counts are those of the log that it contains
  pub record-counted : length supplied % 3 ≡ 0 → replayed_answer end ≡ replay_answer sheet (log_in supplied)
  record-counted whole = replayed-is (record-ended sheet supplied) (record-refusal ∙ refusals-of-request-1 sheet supplied whole)

  module _ (few : length supplied / 3 < 2 ^ 64) where
    abbrev same : ℕ
    same = matching (machine_of (table_of sheet)) supplied

    -- what is told of a record that is not refused
    record-tells : check_refusal sheet supplied ≡ 0 → cond end.differs (Differs end.same) Accepted ≡ cond (eqb same (length supplied / 3)) Accepted (Differs same)
    unfolding before_record before_bytes start_answer told_with
    record-tells passed =
        let none = record-refusal ∙ passed in
        let good = (parts-passed (record-ended sheet supplied) none).0 in
        record-told (before_record sheet) good refl refl supplied (whole-ticks (record-ended sheet supplied) none) (omega arith) (none-refused (record-ended sheet supplied) none)
        ∙ ap (λ (m : Machine). cond (eqb (matching m supplied) (length supplied / 3)) Accepted (Differs (0 + matching m supplied))) (started sheet good)
        ∙ ap (λ (n : ℕ). cond (eqb same (length supplied / 3)) Accepted (Differs n)) (zero-add _)

    -- all bytes of a record taken, the answer is that of `check`
    pub record-followed : checked_answer end ≡ check_answer sheet supplied
    unfolding checked_answer check_answer compared
    record-followed = ap (λ (n : ℕ). cond (eqb n 0) (cond end.differs (Differs end.same) Accepted) (Refused n)) record-refusal ∙ go (ℕ_discrete (check_refusal sheet supplied) 0)
      where
        go : Dec (check_refusal sheet supplied ≡ 0) → cond (eqb (check_refusal sheet supplied) 0) (cond end.differs (Differs end.same) Accepted) (Refused (check_refusal sheet supplied)) ≡ compared (check_refusal sheet supplied) (length supplied / 3) same
        go (yes passed) = ap (λ (c : Checked). cond (eqb (check_refusal sheet supplied) 0) c (Refused (check_refusal sheet supplied))) (record-tells passed)
        go (no broken) = simp (ne_eqb (check_refusal sheet supplied) 0 broken)

-- any number of pieces are one
pub all-joined : (f : Following) (pieces : List (List ℕ)) → IsTied f.machine → all_taken f pieces ≡ followed f (joined pieces)
unfolding all_taken joined followed taken_answer
all-joined f [] keeps = refl
all-joined f (piece ∷ pieces) keeps =
    all-joined (taken_answer f piece) pieces (bytes-tied (tied_in f) piece (tied-in f))
    ∙ ap (λ (g : Following). followed (followed g piece) (joined pieces)) (tied-in-same f keeps) ∙ sym (pieces-joined f piece (joined pieces))

-- what is started with keeps its ready priorities
begun-tied : (is_record : Bool) (sheet : List ℕ) → IsTied (before_bytes is_record (start_answer sheet)).machine
unfolding before_bytes
begun-tied is_record sheet = start-tied sheet

-- "Logs and records of any length, read in pieces": whatever the pieces, the answer is that of the whole
pub log-in-pieces : (sheet : List ℕ) (pieces : List (List ℕ)) → replayed_answer (all_taken (before_log sheet) pieces) ≡ replay_answer sheet (joined pieces)
unfolding before_log
log-in-pieces sheet pieces = ap replayed_answer (all-joined (before_log sheet) pieces (begun-tied false sheet)) ∙ log-followed sheet (joined pieces)

pub record-in-pieces : (sheet : List ℕ) (pieces : List (List ℕ)) → length (joined pieces) / 3 < 2 ^ 64 → checked_answer (all_taken (before_record sheet) pieces) ≡ check_answer sheet (joined pieces)
unfolding before_record
record-in-pieces sheet pieces few = ap checked_answer (all-joined (before_record sheet) pieces (begun-tied true sheet)) ∙ record-followed sheet (joined pieces) few

-- the whole at once is one piece
pub log-whole : (sheet log : List ℕ) → replayed_answer (taken_answer (before_log sheet) log) ≡ replay_answer sheet log
unfolding taken_answer before_log
log-whole sheet log = ap (λ (f : Following). replayed_answer (followed f log)) (tied-in-same (before_log sheet) (begun-tied false sheet)) ∙ log-followed sheet log

pub record-whole : (sheet supplied : List ℕ) → length supplied / 3 < 2 ^ 64 → checked_answer (taken_answer (before_record sheet) supplied) ≡ check_answer sheet supplied
unfolding taken_answer before_record
record-whole sheet supplied few = ap (λ (f : Following). checked_answer (followed f supplied)) (tied-in-same (before_record sheet) (begun-tied true sheet)) ∙ record-followed sheet supplied few
