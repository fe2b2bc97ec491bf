-- `analysis::bounding::found` meets its contract. Assumes nothing.
use mathlib.Core.Path.{sym, ap, ◌∙◌}
use native.Mathlib.Omega.{arith}
use borrow.Author.Tests.{ne_eqb}
use Rattle.places.proofs.Answered.{good_of, passed_as, ok_answered, exit_err}
use Rattle.sheet.proofs.Cases.{good-table}
use Rattle.analysis.specs.Told.{limits_told}
use Rattle.analysis.specs.Bounds.Found.{found_bounds}
use Rattle.analysis.proofs.Laws.ByRule.{rule-good}
use Rattle.analysis.proofs.Laws.Bounds.Meeting.{bounds-refusal, bounds-none, bounds-found}
use Rattle.analysis.proofs.bounding.found.Goals as goal

pub returns-in_err-judge_rule : goal.returns-in_err-judge_rule
returns-in_err-judge_rule c = exit_err _ c.from_residual.ensures ∙ passed_as _ _ _ c.in_err-judge_rule.ensures (sym (bounds-refusal _ _))

pub ordered-tasks-requires : goal.ordered-tasks-requires
ordered-tasks-requires c = rule-good _ _ (good_of _ _ c.in_ok-judge_rule.ensures)

pub none_meets-requires : goal.none_meets-requires
none_meets-requires c =
    let tasks = c.ordered-tasks.ensures in
    record {
      good = rule-good _ _ (good_of _ _ c.in_ok-judge_rule.ensures);
      filled = tasks.filled;
      framed = tasks.framed;
    }

pub returns-then-none_meets : goal.returns-then-none_meets
unfolding limits_told
returns-then-none_meets c =
    let fine = good_of _ _ c.in_ok-judge_rule.ensures in
    ok_answered _ _ (bounds-refusal _ _ ∙ fine) (sym (ap limits_told (bounds-none c.args.rule c.args.table fine (sym c.none_meets.ensures ∙ c.if-none_meets.true))))

pub columns_of-columns-requires : goal.columns_of-columns-requires
columns_of-columns-requires c = rule-good _ _ (good_of _ _ c.in_ok-judge_rule.ensures)

pub limits_in-limits-requires : goal.limits_in-limits-requires
limits_in-limits-requires c =
    let tasks = c.ordered-tasks.ensures in
    record {
      good = rule-good _ _ (good_of _ _ c.in_ok-judge_rule.ensures);
      filled = tasks.filled;
      framed = tasks.framed;
    }

pub returns : goal.returns
unfolding limits_told found_bounds
returns c =
    let args = c.args in
    let fine = good_of _ _ c.in_ok-judge_rule.ensures in
    let some = (good-table args.table (rule-good _ _ fine)).count.0 in
    let found = bounds-found args.rule args.table fine (sym c.none_meets.ensures ∙ c.if-none_meets.false) in
    ok_answered _ _ (bounds-refusal _ _ ∙ fine)
    ((simp (c.columns_of-columns.ensures.priorities, c.columns_of-columns.ensures.backups, c.limits_in-limits.ensures, ne_eqb args.table.count 0 (λ z. omega (arith, some, z))))
    ∙ sym (ap limits_told found))
