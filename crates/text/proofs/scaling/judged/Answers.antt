-- `text::scaling::judged` meets its contract. Assumes nothing.
use mathlib.Core.Path.{◌∙◌}
use Rattle.places.proofs.Answered.{told_answer}
use Rattle.sheet.proofs.Told.{table-known}
use Rattle.text.specs.Scaling.{judged}
use borrow.Author.Tests.{eq-eqb, ne_eqb}
use Rattle.text.proofs.scaling.judged.Goals as goal

pub returns-then-refusal-ne0 : goal.returns-then-refusal-ne0
unfolding judged
returns-then-refusal-ne0 c = simp (← (c.told-refusal.ensures ∙ told_answer (table-known c.args.table) _ c.judge_table.ensures), ne_eqb _ 0 c.if-refusal-ne0.true) c.not_scaled.ensures

pub returns : goal.returns
unfolding judged
returns c = simp (← (c.told-refusal.ensures ∙ told_answer (table-known c.args.table) _ c.judge_table.ensures), eq-eqb _ 0 c.if-refusal-ne0.false)
