-- `analysis::by_rule::assessment` meets its contract. Assumes nothing.
use mathlib.Core.Path.{sym, ap, ◌∙◌}
use Rattle.places.proofs.Answered.{good_of, passed_as, ok_answered, exit_err}
use Rattle.analysis.specs.Told.{times_told}
use Rattle.analysis.proofs.Laws.Common.Columned.{ranks-there}
use Rattle.analysis.proofs.Laws.ByRule.{judged-fine, assessed-there, assessment-refusal}
use borrow.Author.Rules.{rules}
use Rattle.analysis.proofs.by_rule.assessment.Goals as goal

pub returns-in_err-judge_choice_by : goal.returns-in_err-judge_choice_by
returns-in_err-judge_choice_by c = exit_err _ c.from_residual.ensures ∙ passed_as _ _ _ c.in_err-judge_choice_by.ensures (sym (assessment-refusal _ _ _))

pub chosen-among-requires : goal.chosen-among-requires
chosen-among-requires c =
    let fine = judged-fine c.args.rule c.args.table c.args.choice (search rules) (good_of _ _ c.in_ok-judge_choice_by.ensures) in
    record { good = fine.0; within = fine.1 }

pub put_ranks-requires : goal.put_ranks-requires
put_ranks-requires c = record { good = (judged-fine c.args.rule c.args.table c.args.choice (search rules) (good_of _ _ c.in_ok-judge_choice_by.ensures)).0; room = search rules }

pub assessed-requires : goal.assessed-requires
assessed-requires c =
    let good = (judged-fine c.args.rule c.args.table c.args.choice (search rules) (good_of _ _ c.in_ok-judge_choice_by.ensures)).0 in
    let among = c.chosen-among.ensures in
    ranks-there c.args.table good _ among.filled c.args.choice _ among.beside among.framed c.put_ranks.new.ranks c.put_ranks.ensures

pub returns : goal.returns
returns c =
    let allowed = good_of _ _ c.in_ok-judge_choice_by.ensures in
    let good = (judged-fine c.args.rule c.args.table c.args.choice (search rules) allowed).0 in
    let among = c.chosen-among.ensures in
    ok_answered _ _ (assessment-refusal c.args.rule c.args.table c.args.choice ∙ allowed)
    (c.assessed.ensures ∙ ap times_told (assessed-there c.args.table good _ among.filled c.args.choice _ among.beside among.framed c.args.rule allowed c.put_ranks.new.ranks c.put_ranks.ensures))
