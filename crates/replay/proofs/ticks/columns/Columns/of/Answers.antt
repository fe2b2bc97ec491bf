-- `replay::ticks::columns::Columns::of` meets its contract: before each turn the slots below are put. Assumes nothing.
use Rattle.std.proofs.Common.{◌≡◌, ℕ, length, replicate, refl, ◌∙◌, rules}
use Rattle.places.specs.Places.{one_if, filled_below}
use Rattle.places.proofs.Turns.{fill-turn, last_turn}
use Rattle.replay.specs.Ticks.Cells.{cell_at}
use Rattle.replay.specs.Ticks.Columns.{cells_in}
use Rattle.replay.proofs.OfTicks.Columns.{column, cells-spread}
use Rattle.replay.proofs.ticks.columns.Columns.of.Goals as goal

pub loop-slot-init : goal.loop-slot-init
unfolding filled_below
loop-slot-init c = search rules

pub loop-slot-preserved : goal.loop-slot-preserved
unfolding cell_at
loop-slot-preserved c =
    let at = c.loop-slot in
    let cells = c.args.cells in (
      search rules,
      fill-turn (column (λ c. c.left) cells) (replicate 8 0) at.invariant.1 refl,
      fill-turn (column (λ c. c.rest) cells) (replicate 8 0) at.invariant.2 refl,
      fill-turn (column (λ c. c.wait) cells) (replicate 8 0) at.invariant.3 refl,
      fill-turn (column (λ c. one_if c.is_backup) cells) (replicate 8 0) at.invariant.4 c.backup_number.ensures,
    )

pub returns : goal.returns
returns c =
    let at = c.loop-slot in
    let cells = c.args.cells in
    let long : length cells ≡ 8 = search rules in
    let left' = last_turn (λ (n : ℕ). filled_below (column (λ c. c.left) cells) n (replicate 8 0)) at.invariant.1 at.invariant.0 c.loop-slot-test.false in
    let rest' = last_turn (λ (n : ℕ). filled_below (column (λ c. c.rest) cells) n (replicate 8 0)) at.invariant.2 at.invariant.0 c.loop-slot-test.false in
    let wait' = last_turn (λ (n : ℕ). filled_below (column (λ c. c.wait) cells) n (replicate 8 0)) at.invariant.3 at.invariant.0 c.loop-slot-test.false in
    let backups' = last_turn (λ (n : ℕ). filled_below (column (λ c. one_if c.is_backup) cells) n (replicate 8 0)) at.invariant.4 at.invariant.0 c.loop-slot-test.false in
    (λ i. cells_in (left' i) (rest' i) (wait' i) (backups' i)) ∙ cells-spread (replicate 8 0) (replicate 8 0) (replicate 8 0) (replicate 8 0) refl refl refl refl cells long
