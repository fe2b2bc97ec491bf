-- `fidhaqooban::fq_slack` meets its contract. Assumes nothing.
use mathlib.Core.Path.{refl, sym, ap, ◌∙◌}
use native.Mathlib.Omega.{arith}
use Rattle.places.proofs.Answered.{good_of, value_of, broken_of, told_number}
use Rattle.analysis.specs.declared.Entry.{Entry}
use Rattle.analysis.specs.declared.Rule.TheVariants.{Published}
use Rattle.fidhaqooban.specs.Numbers.{answer_of}
use Rattle.fidhaqooban.proofs.Minus.{handed}
use Rattle.fidhaqooban.proofs.Answered.{place-asked, entry-asked, timed-known}
use Rattle.fidhaqooban.proofs.Slacked.{refused-slack, given-slack, place-first, no_room, room-there}
use Rattle.fidhaqooban.proofs.fq_slack.Goals as goal

pub returns-in-Err : goal.returns-in-Err
returns-in-Err c =
    let sheet = c.args.sheet.now in
    let place = c.args.place in
    let out = c.args.out.now in
    let told = told_number _ _ (timed-known Published sheet place) c.in-Err.ensures in
    let same = place-asked sheet place _ refl in
    let broken = broken_of _ _ c.in-Err.ensures in
    let refused = refused-slack sheet place out _ (λ none. broken (sym told ∙ none)) (told ∙ same ∙ place-first sheet place out (λ none. broken (same ∙ none))) in
    record {
      answer = handed c.refused.result c.refused.type_inv ∙ c.refused.ensures ∙ refused.0;
      left = refused.1;
    }

pub returns-then-out-eq0 : goal.returns-then-out-eq0
returns-then-out-eq0 c =
    let sheet = c.args.sheet.now in
    let place = c.args.place in
    let out = c.args.out.now in
    let same = place-asked sheet place _ refl in
    let refused = refused-slack sheet place out 11 (λ e. omega arith) (no_room sheet place out (sym same ∙ good_of _ _ c.in-Ok.ensures) c.if-out-eq0.true) in
    record {
      answer = handed c.answer.result c.answer.type_inv ∙ c.answer.ensures ∙ refused.0;
      left = refused.1;
    }

pub returns : goal.returns
returns c =
    let sheet = c.args.sheet.now in
    let place = c.args.place in
    let out = c.args.out.now in
    let same = place-asked sheet place _ refl in
    let fine = sym same ∙ good_of _ _ c.in-Ok.ensures in
    let entry = value_of _ _ c.in-Ok.ensures ∙ entry-asked sheet place _ refl fine in
    let given = given-slack sheet place out _ (room-there sheet place out fine c.if-out-eq0.false) (ap (λ (e : Entry). e.slack) entry) in
    let put = c.put_figure.ensures in
    record {
      answer = handed c.answer-2.result c.answer-2.type_inv ∙ c.answer-2.ensures ∙ ap (answer_of 0) put.answer ∙ given.0;
      left = put.left ∙ given.1;
    }
