-- `mend::records::mended_record` meets its contract. Assumes nothing.
use Rattle.mend.specs.Mended.{mended_record}
use Rattle.mend.proofs.records.mended_record.Goals as goal

pub returns : goal.returns
unfolding mended_record
returns c = simp (c.mended_deadline.ensures, c.mended_fault.ensures)
