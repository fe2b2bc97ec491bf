-- `fidhaqooban::given::table_of` meets its contract: before each turn the records below the place are filled. Assumes nothing.
use Prim.Native.Nat.{ℕ}
use mathlib.Core.Path.{◌≡◌, ap, ◌∙◌}
use mathlib.Core.List.{List}
use native.Mathlib.Omega.{arith}
use lib.ListN.{replicate}
use Rattle.places.specs.Places.{filled_below}
use Rattle.places.proofs.Turns.{fill_more}
use Rattle.sheet.specs.declared.Record.{Record}
use Rattle.sheet.specs.Layout.{room}
use Rattle.fidhaqooban.specs.Numbers.{given_record, table_from}
use borrow.Author.Rules.{rules}
use Rattle.fidhaqooban.proofs.given.table_of.Goals as goal

pub loop-place-init : goal.loop-place-init
unfolding filled_below
loop-place-init c = (search rules, ap (replicate 8) c.record-records.ensures)

pub loop-place-preserved : goal.loop-place-preserved
loop-place-preserved c =
    (search rules, cc (fill_more (given_record c.args.numbers.now) c.loop-place.place (replicate 8 (given_record c.args.numbers.now 0))))

pub returns : goal.returns
unfolding table_from room filled_below
returns c =
    let each = given_record c.args.numbers.now in
    let all : c.loop-place.place ≡ 8 = omega arith in
    ap (λ (records : List Record). record { count = c.args.count; interval = c.args.interval; round = c.args.round; share = c.args.share; records = records })
    (c.loop-place.invariant.1 ∙ ap (λ (n : ℕ). filled_below each n (replicate 8 (each 0))) all)
