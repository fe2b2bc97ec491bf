-- `mend::records::mended_table` meets its contract: before each turn the records below the place are mended. Assumes nothing.
use Prim.Native.Nat.{ℕ}
use mathlib.Core.Path.{◌≡◌, refl, sym, ap, ap₂, ◌∙◌}
use mathlib.Core.List.{List}
use native.Mathlib.Omega.{arith}
use lib.ListN.{set}
use Rattle.places.specs.Places.{filled_below}
use Rattle.places.proofs.Turns.{fill_more}
use Rattle.sheet.specs.declared.Record.{Record}
use Rattle.sheet.specs.Layout.{record_at}
use Rattle.mend.specs.Mended.{mended_record}
use Rattle.mend.specs.Steps.{mended_table}
use borrow.Author.Rules.{rules}
use Rattle.mend.proofs.records.mended_table.Goals as goal

pub loop-place-init : goal.loop-place-init
unfolding filled_below
loop-place-init c = (search rules, refl)

pub loop-place-preserved : goal.loop-place-preserved
unfolding record_at
loop-place-preserved c =
    let typed = c.args.table.records in
    let at = c.loop-place in (
      search rules,
      ap₂ (λ (l : List Record) (r : Record). set l at.place r) at.invariant.1 c.mended_record.ensures ∙ sym (fill_more (λ k. mended_record (record_at typed k)) at.place typed),
    )

pub returns : goal.returns
unfolding mended_table
returns c =
    let table = c.args.table in
    let all : c.loop-place.place ≡ 8 = omega arith in
    ap (λ (l : List Record). record { count = table.count; interval = table.interval; round = table.round; share = table.share; records = l })
    (c.loop-place.invariant.1 ∙ ap (λ (n : ℕ). filled_below (λ k. mended_record (record_at table.records k)) n table.records) all)
