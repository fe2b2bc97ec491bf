-- `replay::ticks::columns::Columns::enter` meets its contract: before each turn the releases of the slots below are in. Assumes nothing.
use Rattle.std.proofs.Common.{◌≡◌, ℕ, Bool, cond, length, ◌∙◌, ap₂, rules}
use Rattle.places.specs.Places.{filled_below}
use Rattle.places.proofs.Turns.{fill-turn, last_turn}
use Rattle.sheet.specs.Layout.{record_at}
use Rattle.replay.specs.Ticks.Columns.{cells_in}
use Rattle.replay.proofs.OfTicks.Binary.{none-released}
use Rattle.replay.proofs.OfTicks.Columns.{entered_in, in_place, cells-entered, cells-none}
use Rattle.replay.proofs.ticks.columns.Columns.enter.Goals as goal

pub returns-then-releases-eq0 : goal.returns-then-releases-eq0
returns-then-releases-eq0 c =
    let given = c.args in
    cells-none (record_at given.tasks) given.releases given.self.now.left given.self.now.rest given.self.now.wait given.self.now.backups (none-released given.releases c.if-releases-eq0.true)

pub loop-slot-init : goal.loop-slot-init
unfolding filled_below
loop-slot-init c = search rules

pub loop-slot-preserved : goal.loop-slot-preserved
unfolding record_at
loop-slot-preserved c =
    let at = c.loop-slot in
    let given = c.args in
    let tasks = record_at given.tasks in
    let releases = given.releases in
    let is = c.is_released-is_here.ensures in
    let here = in_place (entered_in releases (λ k. (tasks k).cost) given.self.now.left) given.self.now.left at.self.left at.slot at.invariant.1 in
    let deadline = in_place (entered_in releases (λ k. (tasks k).deadline) given.self.now.rest) given.self.now.rest at.self.rest at.slot at.invariant.2 in
    let release = in_place (entered_in releases (λ k. (tasks k).period) given.self.now.wait) given.self.now.wait at.self.wait at.slot at.invariant.3 in
    let kind = in_place (entered_in releases (λ k. 0) given.self.now.backups) given.self.now.backups at.self.backups at.slot at.invariant.4 in (
      search rules,
      fill-turn (entered_in releases (λ k. (tasks k).cost) given.self.now.left) given.self.now.left at.invariant.1 (c.picked.ensures ∙ ap₂ (λ (b : Bool) (n : ℕ). cond b (tasks at.slot).cost n) is here),
      fill-turn (entered_in releases (λ k. (tasks k).deadline) given.self.now.rest) given.self.now.rest at.invariant.2 (c.picked-in-loop-slot.ensures ∙ ap₂ (λ (b : Bool) (n : ℕ). cond b (tasks at.slot).deadline n) is deadline),
      fill-turn (entered_in releases (λ k. (tasks k).period) given.self.now.wait) given.self.now.wait at.invariant.3 (c.picked-in-loop-slot-2.ensures ∙ ap₂ (λ (b : Bool) (n : ℕ). cond b (tasks at.slot).period n) is release),
      fill-turn (entered_in releases (λ k. 0) given.self.now.backups) given.self.now.backups at.invariant.4 (c.picked-in-loop-slot-3.ensures ∙ ap₂ (λ (b : Bool) (n : ℕ). cond b 0 n) is kind),
    )

pub returns : goal.returns
returns c =
    let at = c.loop-slot in
    let given = c.args in
    let tasks = record_at given.tasks in
    let releases = given.releases in
    let l : length given.self.now.left ≡ 8 = search rules in
    let r : length given.self.now.rest ≡ 8 = search rules in
    let w : length given.self.now.wait ≡ 8 = search rules in
    let b : length given.self.now.backups ≡ 8 = search rules in
    let left' = last_turn (λ (n : ℕ). filled_below (entered_in releases (λ k. (tasks k).cost) given.self.now.left) n given.self.now.left) at.invariant.1 at.invariant.0 c.loop-slot-test.false in
    let rest' = last_turn (λ (n : ℕ). filled_below (entered_in releases (λ k. (tasks k).deadline) given.self.now.rest) n given.self.now.rest) at.invariant.2 at.invariant.0 c.loop-slot-test.false in
    let wait' = last_turn (λ (n : ℕ). filled_below (entered_in releases (λ k. (tasks k).period) given.self.now.wait) n given.self.now.wait) at.invariant.3 at.invariant.0 c.loop-slot-test.false in
    let backups' = last_turn (λ (n : ℕ). filled_below (entered_in releases (λ k. 0) given.self.now.backups) n given.self.now.backups) at.invariant.4 at.invariant.0 c.loop-slot-test.false in
    (λ i. cells_in (left' i) (rest' i) (wait' i) (backups' i)) ∙ cells-entered given.self.now.left given.self.now.rest given.self.now.wait given.self.now.backups l r w b tasks releases
