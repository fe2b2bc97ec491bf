-- `sheet::read_unjudged` meets its contract. Assumes nothing.
use mathlib.Core.Path.{◌∙◌}
use Rattle.places.proofs.Answered.{good_of, passed_on, ok_answered, exit_err}
use Rattle.sheet.specs.Answers.{unjudged_answer}
use Rattle.sheet.proofs.Cases.{good-header}
use Rattle.sheet.proofs.read_unjudged.Goals as goal

pub returns-in_err-judge_header : goal.returns-in_err-judge_header
unfolding unjudged_answer
returns-in_err-judge_header c = exit_err _ c.from_residual.ensures ∙ passed_on _ _ _ c.in_err-judge_header.ensures

pub table_of-requires : goal.table_of-requires
table_of-requires c =
    let header = good-header c.args.sheet.now (good_of _ _ c.in_ok-judge_header.ensures) in
    record { few = header.count.1; known = header.edition; sized = header.size }

pub returns : goal.returns
unfolding unjudged_answer
returns c =
    let good = good_of _ _ c.in_ok-judge_header.ensures in
    ok_answered _ _ good (simp (good, c.table_of.ensures))
