-- `sheet::said_size` meets its contract. Assumes nothing.
use mathlib.Core.Path.{◌∙◌}
use Rattle.places.proofs.Answered.{good_of, passed_on, ok_answered, exit_err}
use Rattle.sheet.specs.Answers.{size_answer}
use Rattle.sheet.proofs.Cases.{good-size}
use Rattle.sheet.proofs.said_size.Goals as goal

pub returns-in_err-judge_size : goal.returns-in_err-judge_size
unfolding size_answer
returns-in_err-judge_size c = exit_err _ c.from_residual.ensures ∙ passed_on _ _ _ c.in_err-judge_size.ensures

pub edition-edition-requires : goal.edition-edition-requires
edition-edition-requires c = (good-size _ (good_of _ _ c.in_ok-judge_size.ensures)).long

pub count-requires : goal.count-requires
count-requires c = (good-size _ (good_of _ _ c.in_ok-judge_size.ensures)).long

pub returns : goal.returns
unfolding size_answer
returns c =
    let good = good_of _ _ c.in_ok-judge_size.ensures in
    ok_answered _ _ good (simp (good, c.size.ensures, c.count.ensures, c.edition-edition.ensures))
