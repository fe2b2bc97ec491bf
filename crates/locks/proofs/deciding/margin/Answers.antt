-- `locks::deciding::margin` meets its contract. Assumes nothing.
use native.Mathlib.Omega.{arith}
use mir.Syntax.{w64}
use Rattle.places.proofs.Difference.{difference-fits, difference}
use Rattle.locks.proofs.deciding.margin.Goals as goal

pub overflow_sub-result : goal.overflow_sub-result
overflow_sub-result c = difference-fits w64 c.args.free c.args.length (omega arith) (omega arith)

pub returns : goal.returns
returns c = difference w64 c.args.free c.args.length (omega arith) (omega arith)
