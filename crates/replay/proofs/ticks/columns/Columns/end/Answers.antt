-- `replay::ticks::columns::Columns::end` meets its contract: before each turn the slots below are ended. Assumes nothing.
use Rattle.std.proofs.Common.{◌≡◌, ℕ, ◌-◌, cond, not, ◌&&◌, eqb, leb, length, ap, ◌∙◌, ap₂, arith, rules}
use Rattle.places.specs.Places.{count_below, filled_below}
use Rattle.places.proofs.Counted.{count-at-most}
use Rattle.places.proofs.Turns.{count_turn, fill-turn, last_turn}
use Rattle.replay.specs.Ticks.Columns.{cells_in}
use Rattle.replay.proofs.OfTicks.Columns.{left_ended, nearer, missed_in, in_place, cells-ended, count-missed}
use Rattle.replay.proofs.ticks.columns.Columns.end.Goals as goal

pub loop-slot-init : goal.loop-slot-init
unfolding filled_below count_below
loop-slot-init c = search rules

pub overflow_add-missed : goal.overflow_add-missed
overflow_add-missed c =
    let at = c.loop-slot in
    let given = c.args in
    omega (arith, c.one_if-missed.ensures.small, at.invariant.0, at.invariant.1, count-at-most (missed_in given.self.now.left given.self.now.rest) at.slot)

pub loop-slot-preserved : goal.loop-slot-preserved
loop-slot-preserved c =
    let at = c.loop-slot in
    let given = c.args in
    let left = given.self.now.left in
    let rest = given.self.now.rest in
    let wait = given.self.now.wait in
    let here = in_place (left_ended left rest) left at.self.left at.slot at.invariant.2 in
    let deadline = in_place (nearer rest) rest at.self.rest at.slot at.invariant.3 in
    let release = in_place (nearer wait) wait at.self.wait at.slot at.invariant.4 in (
      search rules,
      count_turn (missed_in left rest) at.invariant.1 (c.is_missed.ensures ∙ ap₂ (λ (x y : ℕ). leb y 1 && not (eqb x 0)) here deadline) c.one_if-missed.ensures.exact,
      fill-turn (left_ended left rest) left at.invariant.2 (c.left_after.ensures ∙ ap₂ (λ (x y : ℕ). cond (leb y 1) 0 x) here deadline),
      fill-turn (nearer rest) rest at.invariant.3 (c.less_one.ensures ∙ ap (λ (n : ℕ). n - 1) deadline),
      fill-turn (nearer wait) wait at.invariant.4 (c.less_one-in-loop-slot.ensures ∙ ap (λ (n : ℕ). n - 1) release),
      at.invariant.5,
    )

pub returns : goal.returns
returns c =
    let at = c.loop-slot in
    let given = c.args in
    let left = given.self.now.left in
    let rest = given.self.now.rest in
    let wait = given.self.now.wait in
    let l : length left ≡ 8 = search rules in
    let r : length rest ≡ 8 = search rules in
    let w : length wait ≡ 8 = search rules in
    let left' = last_turn (λ (n : ℕ). filled_below (left_ended left rest) n left) at.invariant.2 at.invariant.0 c.loop-slot-test.false in
    let rest' = last_turn (λ (n : ℕ). filled_below (nearer rest) n rest) at.invariant.3 at.invariant.0 c.loop-slot-test.false in
    let wait' = last_turn (λ (n : ℕ). filled_below (nearer wait) n wait) at.invariant.4 at.invariant.0 c.loop-slot-test.false in
    record {
      cells = (λ i. cells_in (left' i) (rest' i) (wait' i) (at.invariant.5 i)) ∙ cells-ended left rest wait given.self.now.backups l r w;
      missed = last_turn (count_below (missed_in left rest)) at.invariant.1 at.invariant.0 c.loop-slot-test.false ∙ count-missed left rest wait given.self.now.backups;
    }
