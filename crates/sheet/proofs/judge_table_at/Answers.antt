-- `sheet::judge_table_at` meets its contract: the figures, then the records. Assumes nothing.
use Prim.Native.Nat.{ℕ}
use mathlib.Core.Path.{◌≡◌, sym, ap, ap₂, ◌∙◌}
use borrow.Author.Tests.{ne_eqb}
use Rattle.places.proofs.Refusals.{next-of}
use Rattle.places.proofs.Answered.{good_of, broken_of, first_refused}
use Rattle.sheet.specs.declared.Table.{Table}
use Rattle.sheet.specs.Layout.{record_at}
use Rattle.sheet.specs.Rules.{record_refusal, records_refusal, figures_refusal, table_refusal, broken_below, records_judged, broken_place}
use Rattle.sheet.specs.Answers.{judged_answer, broken_at}
use Rattle.sheet.proofs.Cases.{good-figures}
use Rattle.sheet.proofs.Told.{broken-is}
use Rattle.sheet.proofs.judge_table_at.Goals as goal

-- where the figures are good the table's answer is that of its records
records-judged : (t : Table) → figures_refusal t ≡ 0 → records_judged t.count (record_at t.records) ≡ judged_answer t
unfolding judged_answer table_refusal broken_place records_judged
records-judged t fine =
    let place : broken_place t ≡ broken_below (record_refusal t.count (record_at t.records)) t.count = simp fine in
    ap₂ (λ (refusal place : ℕ). record { refusal = refusal; place = place }) (sym (next-of (records_refusal t.count (record_at t.records)) fine)) (sym place)

pub returns-in-Err : goal.returns-in-Err
unfolding judged_answer table_refusal broken_place
returns-in-Err c =
    let told = c.in-Err.ensures in
    broken-is _ (first_refused _ _ _ told _) (simp (ne_eqb (figures_refusal c.args.table) 0 (broken_of _ _ told)))

pub judge_records-requires : goal.judge_records-requires
judge_records-requires c = (good-figures c.args.table (good_of _ _ c.in_default.ensures)).count.1

pub returns : goal.returns
returns c = c.judge_records.ensures ∙ ap broken_at (records-judged c.args.table (good_of _ _ c.in_default.ensures))
