-- `sheet::judge_whole` meets its contract. Assumes nothing.
use mathlib.Core.Path.{◌∙◌}
use Rattle.places.proofs.Answered.{first_refused, then_answered, exit_err}
use Rattle.sheet.specs.Answers.{judged_answer}
use Rattle.sheet.proofs.Told.{broken-none, broken-refused}
use Rattle.sheet.proofs.judge_whole.Goals as goal

pub returns-in_err-judge_table_at : goal.returns-in_err-judge_table_at
unfolding judged_answer
returns-in_err-judge_table_at c = exit_err _ c.from_residual.ensures ∙ first_refused _ _ _ (broken-refused _ (tt {0}) c.in_err-judge_table_at.ensures) _

pub returns : goal.returns
unfolding judged_answer
returns c = c.judge_shared.ensures ∙ then_answered _ _ (broken-none _ c.in_ok-judge_table_at.ensures)
