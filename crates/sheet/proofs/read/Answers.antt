-- `sheet::read` meets its contract: the header's refusal, then that of the records that were read. Assumes nothing.
use Prim.Native.Nat.{ℕ, ◌≤◌}
use mathlib.Core.Path.{◌≡◌, sym, ap, subst, ◌∙◌}
use mathlib.Core.List.{List}
use Rattle.places.proofs.Refusals.{next-of}
use Rattle.places.proofs.Answered.{first_refused, ok_answered, exit_err}
use Rattle.sheet.specs.declared.Table.{Table}
use Rattle.sheet.specs.Layout.{count_of, sheet_record, record_at, table_of}
use Rattle.sheet.specs.Rules.{header_refusal, records_refusal, records_judged, sheet_refusal}
use Rattle.sheet.specs.Answers.{read_answer, unjudged_answer}
use Rattle.sheet.proofs.Cases.{good-header}
use Rattle.sheet.proofs.Agree.{room-judged}
use Rattle.sheet.proofs.Told.{unjudged-told, broken-none, broken-refused}
use Rattle.sheet.proofs.read.Goals as goal

-- the table's records, judged where the header is good, have the sheet's refusal
records-judged : (s : List ℕ) → header_refusal s ≡ 0 → (t : Table) → t ≡ table_of s → records_refusal t.count (record_at t.records) ≡ sheet_refusal s
unfolding sheet_refusal table_of
records-judged s good t held =
    ap (λ (u : Table). records_refusal u.count (record_at u.records)) held
    ∙ room-judged (sheet_record s) (count_of s) (good-header s good).count.1 ∙ sym (next-of _ good)

pub returns-in_err-table : goal.returns-in_err-table
unfolding unjudged_answer read_answer sheet_refusal
returns-in_err-table c = exit_err _ c.from_residual.ensures ∙ first_refused _ _ _ c.in_err-table.ensures _

pub judge_records-requires : goal.judge_records-requires
unfolding table_of
judge_records-requires c =
    let told = unjudged-told _ c.in_ok-table.ensures in
    subst (λ (t : Table). t.count ≤ 8) (sym told.1) (good-header _ told.0).count.1

pub returns-in_err-judge_records : goal.returns-in_err-judge_records
unfolding read_answer records_judged
returns-in_err-judge_records c =
    let told = unjudged-told _ c.in_ok-table.ensures in
    exit_err _ c.from_residual-in_err-judge_records.ensures ∙ rw (← records-judged _ told.0 _ told.1) (broken-refused _ _ c.in_err-judge_records.ensures)

pub returns : goal.returns
unfolding read_answer records_judged
returns c =
    let told = unjudged-told _ c.in_ok-table.ensures in
    let good = sym (records-judged _ told.0 _ told.1) ∙ broken-none _ c.in_ok-judge_records.ensures in
    ok_answered _ _ good (simp (good, told.1))
