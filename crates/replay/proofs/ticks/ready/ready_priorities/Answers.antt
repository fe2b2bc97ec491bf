-- `replay::ticks::ready::ready_priorities` meets its contract: before each turn the priorities of the slots below are in the set. Assumes nothing.
use Rattle.std.proofs.Common.{◌≡◌, ℕ, ◌+◌, Bool, ◌&&◌, eqb, List, sym, ap, ◌∙◌, ap₂, arith, rules}
use mathlib.Core.Path.{fun_ext}
use lib.Bits.{bit_or}
use Rattle.places.specs.Places.{some_below, one_if}
use Rattle.places.proofs.Turns.{some_more}
use Rattle.sheet.specs.declared.Record.{Record}
use Rattle.sheet.specs.Layout.{record_at}
use Rattle.replay.specs.declared.Cell.{Cell}
use Rattle.replay.specs.Ticks.Cells.{cell_at}
use Rattle.replay.specs.Ticks.Runner.{is_at}
use Rattle.replay.specs.Ticks.Ready.{bits_of, ready_priorities}
use Rattle.replay.proofs.OfTicks.Binary.{bits-or}
use Rattle.replay.proofs.ticks.ready.ready_priorities.Invariants.{present}
use Rattle.replay.proofs.ticks.ready.ready_priorities.Goals as goal

-- and which is that of the slot
abbrev here-at : List Record → List Cell → ℕ → ℕ → Bool
here-at tasks cells slot below = is_at (record_at tasks) (cell_at cells) (below + 1) slot

pub loop-slot-init : goal.loop-slot-init
unfolding bits_of some_below one_if
loop-slot-init c = search rules

pub loop-slot-preserved : goal.loop-slot-preserved
unfolding cell_at record_at is_at
loop-slot-preserved c =
    let at = c.loop-slot in
    let given = c.args in
    let here = here-at given.tasks given.cells at.slot in
    let priority = c.priority_bit-priorities.ensures ∙ ap₂ (λ (b : Bool) (l : ℕ). bits_of (λ below. b && eqb l (below + 1)) 8) c.is_ready.ensures c.priority_of.ensures in
    (search rules, ap₂ bit_or at.invariant.1 priority ∙ bits-or (present given.tasks given.cells at.slot) here 8 ∙ ap (λ (t : ℕ → Bool). bits_of t 8) (fun_ext (λ below. sym (some_more (is_at (record_at given.tasks) (cell_at given.cells) (below + 1)) at.slot))))

pub returns : goal.returns
unfolding ready_priorities
returns c =
    let given = c.args in
    let all : c.loop-slot.slot ≡ 8 = omega arith in
    c.loop-slot.invariant.1 ∙ ap (λ (n : ℕ). bits_of (present given.tasks given.cells n) 8) all
