-- `cores::judge_number` meets its contract. Assumes nothing.
use mathlib.Core.Path.{refl}
use native.Mathlib.Omega.{arith}
use borrow.Author.Tests.{eq-eqb, ne_eqb, lt-ltb, le-ltb}
use Rattle.places.proofs.Answered.{ok_answered, err_answered}
use Rattle.sheet.specs.Rules.{outside}
use Rattle.cores.specs.Answers.{number_refusal}
use Rattle.cores.proofs.judge_number.Goals as goal

pub returns-then-number-eq0 : goal.returns-then-number-eq0
unfolding number_refusal outside
returns-then-number-eq0 c = err_answered _ _ (simp (eq-eqb _ 0 c.if-number-eq0.true))

pub returns-then-number-gt4 : goal.returns-then-number-gt4
unfolding number_refusal outside
returns-then-number-gt4 c = err_answered _ _ (simp (ne_eqb _ 0 c.if-number-eq0.false, lt-ltb 4 _ c.if-number-gt4.true))

pub returns : goal.returns
unfolding number_refusal outside
returns c = ok_answered _ _ (simp (ne_eqb _ 0 c.if-number-eq0.false, le-ltb 4 c.args.number (omega arith))) refl
