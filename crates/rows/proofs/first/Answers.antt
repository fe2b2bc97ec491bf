-- `rows::first` meets its contract: all of a list that is shorter. Assumes nothing.
use Rattle.std.proofs.Common.{sym, refl, arith, length-take-le, take_all}
use Rattle.rows.proofs.first.Goals as goal

pub slice_bounds-result-end : goal.slice_bounds-result-end
slice_bounds-result-end c = sym (length-take-le _ c.args.list.now c.if-length-list.true)

pub returns-else-length-list : goal.returns-else-length-list
returns-else-length-list c = record { block = refl; offset = refl; content = sym (take_all c.args.length c.args.list.now (omega arith)) }
