-- `sheet::judge_table` meets its contract. Assumes nothing.
use mathlib.Core.Path.{refl, ◌∙◌}
use Rattle.places.proofs.Answered.{ok_answered, exit_err}
use Rattle.sheet.specs.Answers.{judged_answer}
use Rattle.sheet.proofs.Told.{broken-none, broken-refused}
use Rattle.sheet.proofs.judge_table.Goals as goal

pub returns-in_err-judge_table_at : goal.returns-in_err-judge_table_at
unfolding judged_answer
returns-in_err-judge_table_at c = exit_err _ c.from_residual.ensures ∙ broken-refused _ _ c.in_err-judge_table_at.ensures

pub returns : goal.returns
unfolding judged_answer
returns c = ok_answered _ _ (broken-none _ c.in_ok-judge_table_at.ensures) refl
