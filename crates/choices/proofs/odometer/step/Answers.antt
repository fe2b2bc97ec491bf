-- `choices::odometer::step` meets its contract: the choice right after a start is refused as the start is. Assumes nothing.
use Rattle.std.proofs.Common.{ℕ, List, [], length, Bool, true, false, not, Some, slice_get, ◌≡◌, ◌≤◌, sym, ap, ◌∙◌, arith}
use borrow.Author.Tests.{not-true, not-false}
use Rattle.places.specs.Answered.{answered}
use Rattle.places.proofs.Refusals.{next-of}
use Rattle.places.proofs.Answered.{good_of, value_of, first_refused, passed_as, ok_answered, err_answered, exit_err}
use Rattle.sheet.specs.declared.Table.{Table}
use Rattle.analysis.specs.declared.Rule.{Rule}
use Rattle.analysis.specs.Common.Columns.{priorities_of}
use Rattle.analysis.specs.Common.Entries.{verdict_of}
use Rattle.analysis.specs.ByRule.{meets, rule_refusal, judged_refusal, meets_answer}
use Rattle.choices.specs.Choices.{chosen}
use Rattle.choices.specs.Order.{after_of}
use Rattle.choices.specs.Answers.{start_refusal}
use Rattle.choices.specs.Stepping.{next_of}
use Rattle.choices.proofs.Onward.{starts_in, still-starts}
use Rattle.choices.proofs.Advancing.{starts, none_after, meeting-after, missing-after, came-to, came-to-end, no_start, start-judged, start-known}
use Rattle.choices.proofs.odometer.step.Goals as goal

-- what is known of the choice right after a start
module _ (rule : Rule) (table : Table) (priorities start : List ℕ) (own : table.count ≤ 8 → priorities ≡ priorities_of table) (eight : length start ≡ 8) (may : starts_in priorities start ≡ true) (rose : Bool) (choice : List ℕ) (answer : rose ≡ (next_of priorities start).rose) (left : choice ≡ (next_of priorities start).entries) where
  refused : (meets_answer rule table choice).refusal ≡ start_refusal rule table start
  unfolding meets_answer verdict_of
  refused = ap (judged_refusal rule table) left ∙ start-judged rule table priorities start own may

  module _ (fine : (meets_answer rule table choice).refusal ≡ 0) where
    known : (rule_refusal rule table ≡ 0) × (starts table start ≡ true) × (priorities ≡ priorities_of table)
    known = start-known rule table priorities start own (sym refused ∙ fine)

    rises : rose ≡ (next_of (priorities_of table) start).rose
    rises = answer ∙ ap (λ (ps : List ℕ). (next_of ps start).rose) known.2

    moved : choice ≡ (next_of (priorities_of table) start).entries
    moved = left ∙ ap (λ (ps : List ℕ). (next_of ps start).entries) known.2

    asked : (meets_answer rule table (next_of (priorities_of table) start).entries).yes ≡ (meets_answer rule table choice).yes
    asked = ap (λ (l : List ℕ). (meets_answer rule table l).yes) (sym moved)

    going_on : starts_in (priorities_of table) choice ≡ true
    going_on = ap (starts_in (priorities_of table)) moved ∙ still-starts (priorities_of table) start known.1

    ended : rose ≡ false → after_of start (chosen (meets rule) table) ≡ []
    ended none = none_after rule table known.0 start eight known.1 (sym rises ∙ none)

    module _ (there : rose ≡ true) where
      found : (meets_answer rule table choice).yes ≡ true → Some choice ≡ slice_get (after_of start (chosen (meets rule) table)) 0
      found yes-it = ap Some moved ∙ came-to (meeting-after rule table known.0 start eight known.1 (sym rises ∙ there) (asked ∙ yes-it))

      passed : (meets_answer rule table choice).yes ≡ false → after_of choice (chosen (meets rule) table) ≡ after_of start (chosen (meets rule) table)
      passed not-it = ap (λ (l : List ℕ). after_of l (chosen (meets rule) table)) moved ∙ sym (missing-after rule table known.0 start eight known.1 (sym rises ∙ there) (asked ∙ not-it))

pub returns-in_err-judge_rule : goal.returns-in_err-judge_rule
returns-in_err-judge_rule c =
    let none = sym c.may_start.ensures ∙ not-true _ (ap not c.if-not-may_start.true) in
    exit_err _ c.from_residual.ensures ∙ first_refused _ _ _ c.in_err-judge_rule.ensures 13
    ∙ ap (λ (n : ℕ). answered n (slice_get (after_of c.args.start (chosen (meets c.args.rule) c.args.table)) 0)) (no_start c.args.rule c.args.table c.priorities_of-priorities.result c.args.start c.priorities_of-priorities.ensures none)

pub returns-then-not-may_start : goal.returns-then-not-may_start
returns-then-not-may_start c =
    let none = sym c.may_start.ensures ∙ not-true _ (ap not c.if-not-may_start.true) in
    err_answered _ _ (sym (next-of 13 (good_of _ _ c.in_ok-judge_rule.ensures)) ∙ no_start c.args.rule c.args.table c.priorities_of-priorities.result c.args.start c.priorities_of-priorities.ensures none)

pub returns-in_err-is_met : goal.returns-in_err-is_met
returns-in_err-is_met c =
    let table : Table = c.args.table in
    let start : List ℕ = c.args.start in
    let eight : length start ≡ 8 = omega arith in
    let may = sym c.may_start.ensures ∙ not-false _ (ap not c.if-not-may_start.false) in
    exit_err _ c.from_residual-in_err-is_met.ensures ∙ passed_as _ _ _ c.in_err-is_met.ensures (refused c.args.rule table c.priorities_of-priorities.result start c.priorities_of-priorities.ensures eight may c.next-is_left.result c.next-is_left.new.choice c.next-is_left.ensures.answer c.next-is_left.ensures.left)

pub returns-then-not-is_left : goal.returns-then-not-is_left
returns-then-not-is_left c =
    let table : Table = c.args.table in
    let start : List ℕ = c.args.start in
    let eight : length start ≡ 8 = omega arith in
    let may = sym c.may_start.ensures ∙ not-false _ (ap not c.if-not-may_start.false) in
    let good = good_of _ _ c.in_ok-is_met.ensures in
    ok_answered _ _ (sym (refused c.args.rule table c.priorities_of-priorities.result start c.priorities_of-priorities.ensures eight may c.next-is_left.result c.next-is_left.new.choice c.next-is_left.ensures.answer c.next-is_left.ensures.left) ∙ good) (came-to-end (ended c.args.rule table c.priorities_of-priorities.result start c.priorities_of-priorities.ensures eight may c.next-is_left.result c.next-is_left.new.choice c.next-is_left.ensures.answer c.next-is_left.ensures.left good (not-true _ (ap not c.if-not-is_left.true))))

pub returns-then-is_met : goal.returns-then-is_met
returns-then-is_met c =
    let table : Table = c.args.table in
    let start : List ℕ = c.args.start in
    let eight : length start ≡ 8 = omega arith in
    let may = sym c.may_start.ensures ∙ not-false _ (ap not c.if-not-may_start.false) in
    let good = good_of _ _ c.in_ok-is_met.ensures in
    ok_answered _ _ (sym (refused c.args.rule table c.priorities_of-priorities.result start c.priorities_of-priorities.ensures eight may c.next-is_left.result c.next-is_left.new.choice c.next-is_left.ensures.answer c.next-is_left.ensures.left) ∙ good)
    (found c.args.rule table c.priorities_of-priorities.result start c.priorities_of-priorities.ensures eight may c.next-is_left.result c.next-is_left.new.choice c.next-is_left.ensures.answer c.next-is_left.ensures.left good (not-false _ (ap not c.if-not-is_left.false)) (sym (value_of _ _ c.in_ok-is_met.ensures) ∙ c.if-is_met.true))

pub advance-requires : goal.advance-requires
advance-requires c =
    let table : Table = c.args.table in
    let start : List ℕ = c.args.start in
    let eight : length start ≡ 8 = omega arith in
    let may = sym c.may_start.ensures ∙ not-false _ (ap not c.if-not-may_start.false) in
    going_on c.args.rule table c.priorities_of-priorities.result start c.priorities_of-priorities.ensures eight may c.next-is_left.result c.next-is_left.new.choice c.next-is_left.ensures.answer c.next-is_left.ensures.left (good_of _ _ c.in_ok-is_met.ensures)

pub returns : goal.returns
returns c =
    let table : Table = c.args.table in
    let start : List ℕ = c.args.start in
    let eight : length start ≡ 8 = omega arith in
    let may = sym c.may_start.ensures ∙ not-false _ (ap not c.if-not-may_start.false) in
    let good = good_of _ _ c.in_ok-is_met.ensures in
    c.advance.ensures
    ∙ ap (λ (l : List (List ℕ)). answered (rule_refusal c.args.rule table) (slice_get l 0)) (passed c.args.rule table c.priorities_of-priorities.result start c.priorities_of-priorities.ensures eight may c.next-is_left.result c.next-is_left.new.choice c.next-is_left.ensures.answer c.next-is_left.ensures.left good (not-false _ (ap not c.if-not-is_left.false)) (sym (value_of _ _ c.in_ok-is_met.ensures) ∙ c.if-is_met.false))
    ∙ ap (λ (n : ℕ). answered n (slice_get (after_of start (chosen (meets c.args.rule) table)) 0)) ((known c.args.rule table c.priorities_of-priorities.result start c.priorities_of-priorities.ensures eight may c.next-is_left.result c.next-is_left.new.choice c.next-is_left.ensures.answer c.next-is_left.ensures.left good).0 ∙ sym (sym (refused c.args.rule table c.priorities_of-priorities.result start c.priorities_of-priorities.ensures eight may c.next-is_left.result c.next-is_left.new.choice c.next-is_left.ensures.answer c.next-is_left.ensures.left) ∙ good))
