-- `report::page::copy` meets its contract: a copy within the output. Assumes nothing.
use Rattle.std.proofs.Common.{arith, ◌≡◌, length, take}
use lib.Seq.{length-take-le}
use Rattle.report.proofs.Pages.{put_sets}
use Rattle.report.proofs.page.copy.Goals as goal

pub returns : goal.returns
returns c =
    let size = c.args.size in
    let text = take size c.args.bytes.now in
    let long : length text ≡ size = length-take-le size c.args.bytes.now (omega (arith, c.requires.within, c.told-bytes)) in
    put_sets _ text _ c.args.at _ c.copy_from_slice.ensures.after (omega (arith, long)) c.requires.room
