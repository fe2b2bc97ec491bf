-- `analysis::common::entries::says_late` meets its contract. Assumes nothing.
use mathlib.Core.Path.{sym, ap}
use Rattle.analysis.specs.Common.Entries.{says_late}
use Rattle.analysis.proofs.common.entries.says_late.Goals as goal

pub returns-in-OnTime : goal.returns-in-OnTime
unfolding says_late
returns-in-OnTime c = sym (ap says_late c.in-OnTime.is)

pub returns-in-Late : goal.returns-in-Late
unfolding says_late
returns-in-Late c = sym (ap says_late c.in-Late.is)
