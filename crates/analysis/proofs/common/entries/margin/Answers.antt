-- `analysis::common::entries::margin` meets its contract. Assumes nothing.
use mathlib.Core.Path.{ap}
use native.Mathlib.Omega.{arith}
use mir.Syntax.{w32}
use borrow.Author.Tests.{eq-eqb, ne_eqb}
use Rattle.places.proofs.Difference.{difference-fits, difference}
use Rattle.analysis.specs.declared.Slack.TheVariants.{Figure}
use Rattle.analysis.specs.Common.Entries.{slack_of}
use Rattle.analysis.proofs.common.entries.margin.Goals as goal

pub returns-then-time-eq0 : goal.returns-then-time-eq0
unfolding slack_of
returns-then-time-eq0 c = simp (eq-eqb _ 0 c.if-time-eq0.true)

pub overflow_sub-result : goal.overflow_sub-result
overflow_sub-result c = difference-fits w32 c.args.deadline c.args.time (omega arith) (omega arith)

pub returns : goal.returns
unfolding slack_of
returns c = rw (ne_eqb _ 0 c.if-time-eq0.false) (ap Figure (difference w32 c.args.deadline c.args.time (omega arith) (omega arith)))
