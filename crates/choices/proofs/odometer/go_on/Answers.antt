-- `choices::odometer::go_on` meets its contract: no choice passed over stays within the bounds. Assumes nothing.
use Rattle.std.specs.Prelude.{Some, Result}
use Rattle.std.specs.Result.{result_unwrap_or}
use Rattle.places.specs.declared.refusal.Refusal.{Refusal}
use Rattle.places.specs.Answered.{answered}
use Prim.Native.Nat.{ℕ, ◌<◌}
use mathlib.Core.Path.{◌≡◌, sym, ap, subst, ◌∙◌}
use mathlib.Core.Bool.{Bool, true, false}
use mathlib.Core.List.{List, [], ◌∷◌}
use lib.ListN.{length}
use Rattle.analysis.specs.declared.Bounds.{Bounds}
use Rattle.analysis.specs.declared.Rule.{Rule}
use Rattle.analysis.specs.Bounds.Within.{within_answer, bounds_refusal, within_bounds}
use Rattle.analysis.specs.Bounds.Lent.{bounds_lent}
use Rattle.analysis.proofs.Laws.ByRule.{verdict-told}
use Rattle.choices.specs.Choices.{choices_of}
use Rattle.choices.specs.Order.{after_of}
use Rattle.choices.specs.Stepping.{next_of, within_of, Levels}
use Rattle.choices.proofs.Onward.{starts_in, still-starts}
use Rattle.choices.proofs.Advancing.{none_left, fewer, passing-next, failing-next, came-to, came-to-end}
use Rattle.choices.proofs.odometer.go_on.Goals as goal

-- the choice right after another, which stays within bounds or does not
module _ (bounds : Bounds) (rule : Rule) (levels : Levels bounds.priorities) (choice : List ℕ) (eight : length choice ≡ 8) (going_on : starts_in bounds.priorities choice ≡ true) where
  abbrev test : List ℕ → Bool
  test c = (within_answer rule (bounds_lent bounds) c).yes

  abbrev later : List ℕ
  later = (next_of bounds.priorities choice).entries

  whole : length choice ≡ length bounds.priorities
  whole = eight ∙ sym levels.eight

  ended : (next_of bounds.priorities choice).rose ≡ false → after_of choice (within_of rule bounds) ≡ []
  unfolding within_of
  ended = none_left bounds.priorities test levels.first choice whole going_on

  module _ (there : (next_of bounds.priorities choice).rose ≡ true) where
    shorter : length (after_of later (choices_of bounds.priorities)) < length (after_of choice (choices_of bounds.priorities))
    shorter = fewer bounds.priorities test levels.first choice whole going_on there

    found : test later ≡ true → after_of choice (within_of rule bounds) ≡ later ∷ after_of later (within_of rule bounds)
    unfolding within_of
    found = passing-next bounds.priorities test levels.first choice whole going_on there

    passed : test later ≡ false → after_of choice (within_of rule bounds) ≡ after_of later (within_of rule bounds)
    unfolding within_of
    passed = failing-next bounds.priorities test levels.first choice whole going_on there

-- what is asked of a choice
told : (rule : Rule) (bounds : Bounds) (choice : List ℕ) {verdict : Result Bool Refusal}
    → verdict ≡ answered (within_answer rule (bounds_lent bounds) choice).refusal (within_answer rule (bounds_lent bounds) choice).yes
    → result_unwrap_or verdict false ≡ (within_answer rule (bounds_lent bounds) choice).yes
unfolding within_answer
told rule bounds choice e = verdict-told (bounds_refusal 0 bounds.count) (within_bounds rule (bounds_lent bounds) choice) e

pub returns-then-unwrap_or : goal.returns-then-unwrap_or
returns-then-unwrap_or c =
    let at = c.loop-rule in
    let bounds : Bounds = c.args.bounds.now in
    let there = sym c.next.ensures.answer ∙ c.loop-rule-test.true in
    let asked = c.unwrap_or.ensures ∙ told c.args.rule bounds _ c.meets_lent.ensures ∙ ap (λ (l : List ℕ). (within_answer c.args.rule (bounds_lent bounds) l).yes) c.next.ensures.left in
    ap Some c.next.ensures.left ∙ came-to (at.invariant.left ∙ found bounds c.args.rule c.requires.levels at.choice at.invariant.eight at.invariant.going_on there (sym asked ∙ c.if-unwrap_or.true))

pub loop-rule-smaller : goal.loop-rule-smaller
loop-rule-smaller c =
    let at = c.loop-rule in
    let bounds : Bounds = c.args.bounds.now in
    let there = sym c.next.ensures.answer ∙ c.loop-rule-test.true in
    subst (λ (l : List ℕ). length (after_of l (choices_of bounds.priorities)) < length (after_of at.choice (choices_of bounds.priorities))) (sym c.next.ensures.left)
    (shorter bounds c.args.rule c.requires.levels at.choice at.invariant.eight at.invariant.going_on there)

pub loop-rule-preserved : goal.loop-rule-preserved
loop-rule-preserved c =
    let at = c.loop-rule in
    let bounds : Bounds = c.args.bounds.now in
    let there = sym c.next.ensures.answer ∙ c.loop-rule-test.true in
    let asked = c.unwrap_or.ensures ∙ told c.args.rule bounds _ c.meets_lent.ensures ∙ ap (λ (l : List ℕ). (within_answer c.args.rule (bounds_lent bounds) l).yes) c.next.ensures.left in
    record {
      eight = c.next.array_long;
      going_on = ap (starts_in bounds.priorities) c.next.ensures.left ∙ still-starts bounds.priorities at.choice at.invariant.going_on;
      left = at.invariant.left ∙ passed bounds c.args.rule c.requires.levels at.choice at.invariant.eight at.invariant.going_on there (sym asked ∙ c.if-unwrap_or.false)
          ∙ ap (λ (l : List ℕ). after_of l (within_of c.args.rule bounds)) (sym c.next.ensures.left);
    }

pub returns : goal.returns
returns c =
    let at = c.loop-rule in
    came-to-end (at.invariant.left ∙ ended c.args.bounds.now c.args.rule c.requires.levels at.choice at.invariant.eight at.invariant.going_on (sym c.next.ensures.answer ∙ c.loop-rule-test.false))
