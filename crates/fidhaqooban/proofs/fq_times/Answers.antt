-- `fidhaqooban::fq_times` meets its contract. Assumes nothing.
use Prim.Native.Nat.{◌*◌, ◌/◌, ◌%◌}
use mathlib.Core.Bool.{cond}
use mathlib.Core.Path.{refl, ap, ◌∙◌}
use native.Mathlib.Omega.{arith}
use lib.ListN.{get_or}
use Rattle.places.specs.Places.{filled_below}
use Rattle.places.proofs.Answered.{value_of, broken_of}
use Rattle.analysis.specs.declared.Assessment.{Assessment}
use Rattle.analysis.specs.Common.Entries.{no_entry}
use Rattle.fidhaqooban.specs.Numbers.{answer_of, entry_number}
use Rattle.fidhaqooban.proofs.Minus.{handed}
use Rattle.fidhaqooban.proofs.Answered.{ok-number, bool-number, count-read}
use Rattle.fidhaqooban.proofs.Timed.{sheet-told, no_room, good-told, assessed-good}
use Rattle.fidhaqooban.proofs.Written.{at_most}
use Rattle.fidhaqooban.proofs.fq_times.Goals as goal

pub returns-in-Err : goal.returns-in-Err
returns-in-Err c =
    let told = sheet-told c.args.sheet.now c.args.out.now c.in-Err.ensures in
    record { answer = handed c.refused.result c.refused.type_inv ∙ c.refused.ensures ∙ told.0; left = told.1 }

pub returns-then-out-count : goal.returns-then-out-count
returns-then-out-count c =
    let told = no_room c.args.sheet.now c.args.out.now c.in-Ok.ensures c.if-out-count.true in
    record { answer = handed c.answer.result c.answer.type_inv ∙ c.answer.ensures ∙ told.0; left = told.1 }

pub put_entries-requires : goal.put_entries-requires
put_entries-requires c = record { few = count-read c.args.sheet.now c.in-Ok.ensures; room = c.if-out-count.false }

pub answer-requires-in-Ok-assess : goal.answer-requires-in-Ok-assess
answer-requires-in-Ok-assess c =
    let passes = c.in-Ok-assess.assessed.passes in
    omega (arith, bool-number passes, at_most passes 1)

pub returns-in-Ok-assess : goal.returns-in-Ok-assess
returns-in-Ok-assess c =
    let given = c.in-Ok-assess.ensures in
    let told = good-told c.args.sheet.now c.args.out.now c.in-Ok.ensures c.if-out-count.false _ refl in
    record {
      answer = handed c.answer-in-Ok-assess.result c.answer-in-Ok-assess.type_inv ∙ c.answer-in-Ok-assess.ensures ∙ ap (answer_of 0) (bool-number c.in-Ok-assess.assessed.passes)
          ∙ ok-number _ _ given (λ (a : Assessment). cond a.passes 1 0) ∙ told.0;
      left = c.put_entries.ensures ∙ ap (λ (a : Assessment). filled_below (λ k. entry_number (get_or a.entries (k / 3) no_entry) (k % 3)) (3 * c.in-Ok.table.count) c.args.out.now) (value_of _ _ given) ∙ told.1;
    }

pub returns-in-Err-assess : goal.returns-in-Err-assess
returns-in-Err-assess c = absurd (broken_of _ _ c.in-Err-assess.ensures (assessed-good c.args.sheet.now c.in-Ok.ensures))
