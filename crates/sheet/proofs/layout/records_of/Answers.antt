-- `sheet::layout::records_of` meets its contract: before each turn the records below the place are filled. Assumes nothing.
use Prim.Native.Nat.{ℕ, ◌+◌, ◌*◌, ◌≤◌}
use mathlib.Core.Path.{◌≡◌, sym, ap, ap₂, ◌∙◌}
use native.Mathlib.Omega.{arith}
use mathlib.Core.List.{List}
use lib.ListN.{length, set, replicate}
use Rattle.places.specs.Places.{filled_below}
use Rattle.places.proofs.Turns.{fill_more}
use Rattle.sheet.specs.declared.Record.{Record}
use Rattle.sheet.specs.Layout.{size_of, record_of, sheet_record, no_record, room}
use Rattle.sheet.proofs.Parts.{part_at, part_end, part-nine}
use borrow.Author.Rules.{rules}
use Rattle.sheet.proofs.layout.records_of.Goals as goal

pub start-first-requires : goal.start-first-requires
unfolding size_of
start-first-requires c = omega arith

pub loop-place-init : goal.loop-place-init
unfolding filled_below
loop-place-init c = (search rules, ap (replicate 8) c.no_record-records.ensures)

pub overflow_add-begin : goal.overflow_add-begin
overflow_add-begin c =
    let inside : c.start-first.result + 9 * c.loop-place.place + 9 ≤ length c.args.sheet.now = part_end c.args.sheet.now _ _ c.requires.sized c.loop-place-test.true _ c.start-first.ensures in
    omega (arith, inside)

pub overflow_add-end : goal.overflow_add-end
overflow_add-end c =
    let inside : c.start-first.result + 9 * c.loop-place.place + 9 ≤ length c.args.sheet.now = part_end c.args.sheet.now _ _ c.requires.sized c.loop-place-test.true _ c.start-first.ensures in
    omega (arith, inside)

pub slice_bounds-record_from-end : goal.slice_bounds-record_from-end
slice_bounds-record_from-end c =
    let inside : c.start-first.result + 9 * c.loop-place.place + 9 ≤ length c.args.sheet.now = part_end c.args.sheet.now _ _ c.requires.sized c.loop-place-test.true _ c.start-first.ensures in
    inside

pub record_from-requires : goal.record_from-requires
record_from-requires c =
    ap length (part_at c.args.sheet.now _ _ c.start-first.ensures) ∙ part-nine c.args.sheet.now _ _ c.requires.sized c.loop-place-test.true

pub loop-place-preserved : goal.loop-place-preserved
unfolding sheet_record
loop-place-preserved c =
    let sheet = c.args.sheet.now in
    let at = c.loop-place in (
      search rules,
      ap₂ (λ (l : List Record) (r : Record). set l at.place r) at.invariant.1
          (c.record_from.ensures ∙ ap record_of (part_at sheet _ at.place c.start-first.ensures))
          ∙ sym (fill_more (sheet_record sheet) at.place (replicate 8 no_record)),
    )

pub returns : goal.returns
unfolding room
returns c =
    let all : c.loop-place.place ≡ c.args.count = omega arith in
    c.loop-place.invariant.1 ∙ ap (λ (n : ℕ). filled_below (sheet_record c.args.sheet.now) n (replicate 8 no_record)) all
