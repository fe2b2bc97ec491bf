-- `text::page::put` meets its contract: a copy within the output. Assumes nothing.
use Rattle.std.proofs.Common.{refl}
use Rattle.report.proofs.Pages.{put_sets}
use Rattle.text.proofs.page.put.Goals as goal

pub returns : goal.returns
returns c = record { long = refl; content = put_sets _ c.args.bytes.now _ c.args.at _ c.copy_from_slice.ensures.after refl c.requires }
