-- `sheet::rules::judge_parts` meets its contract: the records below the place are good, and their priorities marked. Assumes nothing.
use Rattle.sheet.specs.Layout.{sheet_record}
use Rattle.sheet.proofs.Judging.{Judging}
use Rattle.sheet.proofs.rules.judge_parts.Given as goal

abbrev pub invariant-loop-place : goal.invariant-loop-place
invariant-loop-place l = Judging l.count (sheet_record l.sheet) l.marks l.place
