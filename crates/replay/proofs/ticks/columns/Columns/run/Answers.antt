-- `replay::ticks::columns::Columns::run` meets its contract: stores at the slot that runs, or none. Assumes nothing.
use Rattle.std.proofs.Common.{◌≡◌, ℕ, ◌+◌, ◌-◌, ◌<◌, Bool, length, set, sym, ap, ◌∙◌, arith, rules}
use Rattle.sheet.specs.Layout.{record_at}
use Rattle.replay.specs.Ticks.Cells.{cell_at, eight}
use Rattle.replay.specs.Ticks.Columns.{cells_in, cells_shown}
use Rattle.replay.specs.Ticks.Step.{ran, faulted}
use Rattle.replay.proofs.OfTicks.Columns.{cells-idle, cells-struck, cells-worked}
use Rattle.replay.proofs.ticks.columns.Columns.run.Goals as goal

pub returns-then-priority-eq0 : goal.returns-then-priority-eq0
returns-then-priority-eq0 c =
    let given = c.args in
    cells-idle (record_at given.tasks) given.is_struck given.priority given.self.now.left given.self.now.rest given.self.now.wait given.self.now.backups c.if-priority-eq0.true

pub returns-then-is_struck : goal.returns-then-is_struck
unfolding record_at
returns-then-is_struck c =
    let given = c.args in
    let self = given.self.now in
    let l : length self.left ≡ 8 = search rules in
    let b : length self.backups ≡ 8 = search rules in
    let low : given.priority - 1 < 8 = omega (arith, c.requires) in
    let same : given.priority - 1 + 1 ≡ given.priority = omega (arith, c.if-priority-eq0.false) in
    cells-struck (record_at given.tasks) self.left self.rest self.wait self.backups l b (given.priority - 1) given.priority low same
    ∙ ap (λ (s : Bool). eight (faulted (record_at given.tasks) s given.priority (ran given.priority (cell_at (cells_shown self))))) (sym c.if-is_struck.true)

pub returns : goal.returns
returns c =
    let given = c.args in
    let self = given.self.now in
    let l : length self.left ≡ 8 = search rules in
    let b : length self.backups ≡ 8 = search rules in
    let low : given.priority - 1 < 8 = omega (arith, c.requires) in
    let same : given.priority - 1 + 1 ≡ given.priority = omega (arith, c.if-priority-eq0.false) in
    ap (λ (n : ℕ). cells_in (set self.left (given.priority - 1) n) self.rest self.wait self.backups) c.less_one.ensures
    ∙ cells-worked (record_at given.tasks) self.left self.rest self.wait self.backups l b (given.priority - 1) given.priority low same
    ∙ ap (λ (s : Bool). eight (faulted (record_at given.tasks) s given.priority (ran given.priority (cell_at (cells_shown self))))) (sym c.if-is_struck.false)
