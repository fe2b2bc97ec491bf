-- `fidhaqooban::fq_replay` meets its contract. Assumes nothing.
use mathlib.Core.Path.{sym, ◌∙◌}
use native.Mathlib.Omega.{arith}
use Rattle.fidhaqooban.proofs.Minus.{handed}
use Rattle.fidhaqooban.proofs.Replayed.{refused-replay, replay-first, no_room, given-replay, told-refusal, told-counts}
use Rattle.fidhaqooban.proofs.fq_replay.Goals as goal

pub returns-then-replayed-ne0 : goal.returns-then-replayed-ne0
returns-then-replayed-ne0 c =
    let sheet = c.args.sheet.now in
    let log = c.args.log.now in
    let same = told-refusal sheet log _ c.replay-replayed.ensures in
    let broken = c.if-replayed-ne0.true in
    let told = refused-replay sheet log c.args.counts.now _ broken (same ∙ replay-first sheet log c.args.counts.now (λ none. broken (same ∙ none))) in
    record {
      answer = handed c.answer.result c.answer.type_inv ∙ c.answer.ensures ∙ told.0;
      left = told.1;
    }

pub returns-then-counts-lt7 : goal.returns-then-counts-lt7
returns-then-counts-lt7 c =
    let sheet = c.args.sheet.now in
    let log = c.args.log.now in
    let fine = sym (told-refusal sheet log _ c.replay-replayed.ensures) ∙ c.if-replayed-ne0.false in
    let told = refused-replay sheet log c.args.counts.now 11 (λ e. omega arith) (no_room sheet log c.args.counts.now fine c.if-counts-lt7.true) in
    record {
      answer = handed c.answer-then-counts-lt7.result c.answer-then-counts-lt7.type_inv ∙ c.answer-then-counts-lt7.ensures ∙ told.0;
      left = told.1;
    }

pub returns : goal.returns
returns c =
    let sheet = c.args.sheet.now in
    let log = c.args.log.now in
    let fine = sym (told-refusal sheet log _ c.replay-replayed.ensures) ∙ c.if-replayed-ne0.false in
    let told = given-replay sheet log c.args.counts.now fine c.if-counts-lt7.false _ (told-counts sheet log _ c.replay-replayed.ensures) in
    record {
      answer = handed c.answer-2.result c.answer-2.type_inv ∙ c.answer-2.ensures ∙ told.0;
      left = c.put_counts.ensures ∙ told.1;
    }
