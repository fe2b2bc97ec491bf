-- `release::sheet_to_load` meets its contract: the part of `load`, else the empty one. Assumes nothing.
use borrow.Author.Tests.{ne_eqb}
use Rattle.release.proofs.Decided.{refused-keeps}
use Rattle.release.proofs.sheet_to_load.Goals as goal

pub returns-in-Ok : goal.returns-in-Ok
returns-in-Ok c = c.in-Ok.ensures.1

pub returns-in-Err : goal.returns-in-Err
returns-in-Err c =
    let broken = c.in-Err.ensures.0 in
    record { place = simp (refused-keeps c.args.in_use.now c.args.candidate.now c.args.protected broken); content = simp (ne_eqb _ 0 broken) }
