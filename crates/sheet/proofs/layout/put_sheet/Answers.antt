-- `sheet::layout::put_sheet` meets its contract: the header, then the records after it. Assumes nothing.
use Prim.Native.Nat.{ℕ}
use mathlib.Core.Path.{◌≡◌, ap, ap₂, ◌∙◌}
use mathlib.Core.List.{List}
use native.Mathlib.Omega.{arith}
use lib.Seq.{sets}
use Rattle.places.specs.Places.{joined_below}
use Rattle.sheet.specs.Layout.{header_size, table_edition, table_size, size_of, record_at, record_bytes}
use Rattle.sheet.proofs.Cases.{good-table}
use Rattle.sheet.proofs.Stores.{sheet-stored}
use Rattle.sheet.proofs.layout.put_sheet.Goals as goal

pub put_header-requires : goal.put_header-requires
unfolding table_size size_of
put_header-requires c =
    let good = good-table c.args.table c.requires.good in
    record {
      room = omega arith;
      few = omega arith;
    }

pub put_records-requires : goal.put_records-requires
unfolding size_of table_size
put_records-requires c =
    let started : c.header_size.result ≡ header_size (table_edition c.args.table) = c.header_size.ensures ∙ ap header_size c.edition_for-edition.ensures in
    let good = good-table c.args.table c.requires.good in
    record {
      few = good.count.1;
      room = omega (arith, started, c.put_header.auto.out, c.requires.room);
      good = good.records;
    }

pub shape_of-out : goal.shape_of-out
shape_of-out c =
    c.put_records.auto.out ∙ c.put_header.auto.out

pub returns : goal.returns
returns c =
    let started : c.header_size.result ≡ header_size (table_edition c.args.table) = c.header_size.ensures ∙ ap header_size c.edition_for-edition.ensures in
    let table = c.args.table in
    c.put_records.ensures
    ∙ ap₂ (λ (l : List ℕ) (start : ℕ). sets l start (joined_below (λ place. record_bytes (record_at table.records place)) table.count)) c.put_header.ensures started
    ∙ sheet-stored table c.args.out.now c.requires.room
