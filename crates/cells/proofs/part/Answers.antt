-- `cells::part` meets its contract. Assumes nothing.
use Rattle.std.proofs.Common.{◌≡◌, arith, min, length}
use Rattle.cells.specs.Cells.{part_of}
use Rattle.cells.proofs.part.Goals as goal

pub returns : goal.returns
unfolding part_of
returns c =
    let stop : c.min-stop.result ≡ min c.args.end (length c.args.line.now) = grind arith in
    let first : c.min-first.result ≡ min c.args.start c.min-stop.result = grind arith in
    simp (first, stop)
