-- `cores::fitting::still_pass` meets its contract. Assumes nothing.
use mathlib.Core.Path.{◌≡◌, refl, sym, ◌∙◌}
use native.Mathlib.Omega.{arith}
use Rattle.std.proofs.Common.{rules}
use Rattle.std.proofs.lemmas.Result.{MatchResult-at_ok}
use Rattle.places.proofs.Answered.{ok_answered}
use Rattle.sheet.proofs.Cases.{good-table}
use Rattle.analysis.specs.Published.Answers.{own_assessment}
use Rattle.cores.proofs.Trying.{tried-fine, tried-passes}
use Rattle.cores.proofs.fitting.still_pass.Goals as goal

pub table_with-requires : goal.table_with-requires
table_with-requires c = omega (arith, (good-table c.args.table c.requires.good).count.1, c.requires.there)

pub returns : goal.returns
returns c =
    let given = c.args in
    let good = c.requires.good in
    let there = c.requires.there in
    let holds = c.table_with.ensures in
    let answer = c.assess-answer.ensures ∙ sym (ok_answered _ _ (tried-fine given.table good _ _ _ there _ holds) refl) in
    let told : c.is_ok_and.result ≡ (own_assessment c.table_with.result).passes = search (rules, MatchResult-at_ok _ _ _ answer c.is_ok_and.ensures) in
    told ∙ tried-passes given.table good _ _ _ there _ holds
