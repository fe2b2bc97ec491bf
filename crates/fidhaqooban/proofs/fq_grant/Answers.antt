-- `fidhaqooban::fq_grant` meets its contract. Assumes nothing.
use mathlib.Core.Path.{◌≡◌, ap, ap₂, ◌∙◌}
use mathlib.Core.List.{List}
use native.Mathlib.Omega.{arith}
use Rattle.locks.specs.declared.Starts.{Starts}
use Rattle.locks.specs.declared.Resource.{Resource}
use Rattle.locks.specs.Answers.{grant_answer}
use Rattle.fidhaqooban.specs.Locking.{given_request, granting_of}
use lib.ListN.{set}
use Rattle.fidhaqooban.specs.Numbers.{answer_of}
use Rattle.fidhaqooban.proofs.Minus.{handed}
use Rattle.fidhaqooban.proofs.Answered.{bool-number}
use Rattle.fidhaqooban.proofs.Written.{at_most}
use Rattle.fidhaqooban.proofs.Locked.{lock-refused, lock-no-room, lock-given}
use borrow.Author.Rules.{rules}
use Rattle.fidhaqooban.proofs.fq_grant.Goals as goal

pub returns-then-granting-ne0 : goal.returns-then-granting-ne0
unfolding granting_of
returns-then-granting-ne0 c =
    let same : let given = c.args in c.grant-granting.result ≡ granting_of given.period given.count given.starts.now given.uses.now given.resources.now (given_request given.priority given.time given.resource given.length) = (
    let given = c.args in
    c.grant-granting.ensures
    ∙ ap₂ (λ (s : Starts) (r : List Resource). grant_answer s r (given_request given.priority given.time given.resource given.length)) c.starts.ensures c.resources.ensures
    ) in
    let margin = c.args.margin.now in
    let told = lock-refused _ _ same margin c.if-granting-ne0.true in
    record {
      answer = handed c.answer.result c.answer.type_inv ∙ c.answer.ensures ∙ told.0;
      left = told.1;
    }

pub returns-then-margin-eq0 : goal.returns-then-margin-eq0
unfolding granting_of
returns-then-margin-eq0 c =
    let same : let given = c.args in c.grant-granting.result ≡ granting_of given.period given.count given.starts.now given.uses.now given.resources.now (given_request given.priority given.time given.resource given.length) = (
    let given = c.args in
    c.grant-granting.ensures
    ∙ ap₂ (λ (s : Starts) (r : List Resource). grant_answer s r (given_request given.priority given.time given.resource given.length)) c.starts.ensures c.resources.ensures
    ) in
    let margin = c.args.margin.now in
    let told = lock-no-room _ _ same margin c.if-granting-ne0.false c.if-margin-eq0.true in
    record {
      answer = handed c.answer-then-margin-eq0.result c.answer-then-margin-eq0.type_inv ∙ c.answer-then-margin-eq0.ensures ∙ told.0;
      left = told.1;
    }

pub answer-requires-2 : goal.answer-requires-2
answer-requires-2 c =
    let granted = c.grant-granting.result.granted in
    omega (arith, bool-number granted, at_most granted 1)

pub returns : goal.returns
unfolding granting_of
returns c =
    let same : let given = c.args in c.grant-granting.result ≡ granting_of given.period given.count given.starts.now given.uses.now given.resources.now (given_request given.priority given.time given.resource given.length) = (
    let given = c.args in
    c.grant-granting.ensures
    ∙ ap₂ (λ (s : Starts) (r : List Resource). grant_answer s r (given_request given.priority given.time given.resource given.length)) c.starts.ensures c.resources.ensures
    ) in
    let margin = c.args.margin.now in
    let told = lock-given _ _ same margin c.if-granting-ne0.false c.if-margin-eq0.false in
    record {
      answer = handed c.answer-2.result c.answer-2.type_inv ∙ c.answer-2.ensures ∙ ap (answer_of 0) (bool-number c.grant-granting.result.granted) ∙ told.0;
      left = c.put_margin.ensures ∙ ap (set margin 0) (search rules) ∙ told.1;
    }
