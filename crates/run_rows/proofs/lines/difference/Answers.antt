-- `run_rows::lines::difference` meets its contract. Assumes nothing.
use Rattle.std.proofs.Common.{arith, w32}
use Rattle.places.proofs.Difference.{difference-fits}
use Rattle.run_rows.proofs.lines.difference.Goals as goal

pub overflow_sub-result : goal.overflow_sub-result
overflow_sub-result c = difference-fits w32 c.args.first c.args.second (omega arith) (omega arith)
