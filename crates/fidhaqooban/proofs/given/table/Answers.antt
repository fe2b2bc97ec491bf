-- `fidhaqooban::given::table` meets its contract. Assumes nothing.
use Prim.Native.Nat.{◌*◌}
use mathlib.Core.Path.{sym, ap, ◌∙◌}
use native.Mathlib.Omega.{arith}
use lib.Seq.{take_all, length-take-le}
use Rattle.fidhaqooban.specs.Numbers.{table_from, given_table}
use Rattle.fidhaqooban.proofs.given.table.Goals as goal

pub slice_bounds-table_of-end : goal.slice_bounds-table_of-end
slice_bounds-table_of-end c = sym (length-take-le _ c.args.numbers.now (omega arith))

pub returns-then-end-numbers : goal.returns-then-end-numbers
unfolding given_table
returns-then-end-numbers c = c.table_of.ensures

pub returns : goal.returns
unfolding given_table
returns c =
    let given = c.args in
    c.table_of-2.ensures ∙ ap (table_from given.count given.interval given.round given.share) (sym (take_all (6 * given.count) given.numbers.now c.if-end-numbers.false))
