-- `fidhaqooban::given::record` meets its contract. Assumes nothing.
use Rattle.fidhaqooban.specs.Numbers.{number_at, given_record}
use Rattle.fidhaqooban.proofs.given.record.Goals as goal

pub returns : goal.returns
unfolding given_record number_at
returns c = cc
