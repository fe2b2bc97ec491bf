-- `sheet::rules::judge_records` meets its contract: the records below the place are good, and their priorities marked. Assumes nothing.
use Rattle.sheet.specs.Layout.{record_at}
use Rattle.sheet.proofs.Judging.{Judging}
use Rattle.sheet.proofs.rules.judge_records.Given as goal

abbrev pub invariant-loop-place : goal.invariant-loop-place
invariant-loop-place l = Judging l.count (record_at l.records) l.marks l.place
