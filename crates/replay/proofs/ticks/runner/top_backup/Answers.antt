-- `replay::ticks::runner::top_backup` meets its contract: before each turn the highest of the slots below is known. Assumes nothing.
use Rattle.std.proofs.Common.{◌≡◌, ℕ, ◌+◌, Bool, cond, sym, ap, ◌∙◌, ap₂, arith, rules}
use Rattle.places.specs.Places.{highest_below}
use Rattle.places.proofs.Turns.{highest-more}
use Rattle.sheet.specs.Layout.{record_at}
use Rattle.replay.specs.Ticks.Cells.{cell_at}
use Rattle.replay.specs.Ticks.Runner.{is_at, top_backup}
use Rattle.replay.proofs.OfTicks.Struck.{backup-priority}
use Rattle.replay.proofs.ticks.runner.top_backup.Invariants.{each, up_to}
use Rattle.replay.proofs.ticks.runner.top_backup.Goals as goal

pub loop-slot-init : goal.loop-slot-init
unfolding highest_below
loop-slot-init c = search rules

pub loop-slot-preserved : goal.loop-slot-preserved
unfolding cell_at record_at is_at
loop-slot-preserved c =
    let at = c.loop-slot in
    let given = c.args in
    let here = c.is_backup_at.ensures ∙ backup-priority (record_at given.tasks at.slot) at.slot (cell_at given.cells at.slot) given.priority in
    (search rules, c.found-highest.ensures ∙ ap₂ (λ (b : Bool) (n : ℕ). cond b (at.slot + 1) n) here at.invariant.1 ∙ sym (highest-more (each given.tasks given.cells given.priority) at.slot))

pub returns : goal.returns
unfolding top_backup
returns c =
    let given = c.args in
    let all : c.loop-slot.slot ≡ 8 = omega arith in
    c.loop-slot.invariant.1 ∙ ap (up_to given.tasks given.cells given.priority) all
