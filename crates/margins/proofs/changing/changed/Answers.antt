-- `margins::changing::changed` meets its contract: the room is filled place by place. Assumes nothing.
use Prim.Native.Nat.{ℕ}
use mathlib.Core.Path.{◌≡◌, sym, ap, ap₂, ◌∙◌}
use mathlib.Core.List.{List}
use native.Mathlib.Omega.{arith}
use lib.ListN.{set, replicate}
use Rattle.places.specs.Places.{filled_below}
use Rattle.places.proofs.Turns.{fill_more}
use Rattle.sheet.specs.declared.Record.{Record}
use Rattle.sheet.specs.Layout.{record_at, no_record, room}
use Rattle.margins.specs.Fitted.{fitted_to}
use Rattle.margins.proofs.changing.changed.Invariants.{filling}
use Rattle.margins.proofs.changing.changed.Goals as goal

pub loop-place-init : goal.loop-place-init
unfolding filled_below
loop-place-init c = (omega arith, ap (replicate 8) c.no_record-records.ensures)

pub changed_at-requires : goal.changed_at-requires
changed_at-requires c = c.requires.room

pub loop-place-preserved : goal.loop-place-preserved
unfolding record_at
loop-place-preserved c =
    let at = c.loop-place in
    let given = c.args in (
      omega arith,
      ap₂ (λ (l : List Record) (r : Record). set l at.place r) at.invariant.1 c.changed_at.ensures ∙ sym (fill_more (filling given.change given.value given.table) at.place (replicate 8 no_record)),
    )

pub returns : goal.returns
unfolding fitted_to room
returns c =
    let given = c.args in
    let t = given.table in
    let all : c.loop-place.place ≡ t.count = omega arith in
    ap (λ (l : List Record). record { count = t.count; interval = t.interval; round = t.round; share = t.share; records = l })
    (c.loop-place.invariant.1 ∙ ap (λ (n : ℕ). filled_below (filling given.change given.value t) n (replicate 8 no_record)) all)
