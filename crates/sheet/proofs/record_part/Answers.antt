-- `sheet::record_part` meets its contract: the part of `record_of`, else the empty one. Assumes nothing.
use mathlib.Core.Path.{refl}
use native.Mathlib.Nat.{add-zero}
use borrow.Author.Tests.{ne_eqb}
use Rattle.sheet.specs.Answers.{place_refusal, part_start, part_bytes}
use Rattle.sheet.proofs.record_part.Goals as goal

pub returns-in-Ok : goal.returns-in-Ok
returns-in-Ok c = c.in-Ok.ensures.1

pub returns-in-Err : goal.returns-in-Err
unfolding part_start part_bytes
returns-in-Err c =
    let refused = ne_eqb (place_refusal c.args.sheet.now c.args.place) 0 c.in-Err.ensures.0 in
    record { block = refl; offset = simp (refused, add-zero); content = simp refused }
