-- `analysis::common::entries::outcome` meets its contract. Assumes nothing.
use borrow.Author.Tests.{eq-eqb, ne_eqb, lt-ltb, le-ltb}
use Rattle.analysis.specs.Common.Entries.{is_late, outcome_of}
use Rattle.analysis.proofs.common.entries.outcome.Goals as goal

pub returns-then-time-eq0 : goal.returns-then-time-eq0
unfolding outcome_of is_late
returns-then-time-eq0 c = simp (eq-eqb _ _ c.if-time-eq0.true)

pub returns-then-deadline-time : goal.returns-then-deadline-time
unfolding outcome_of is_late
returns-then-deadline-time c = simp (ne_eqb _ _ c.if-time-eq0.false, lt-ltb _ _ c.if-deadline-time.true)

pub returns : goal.returns
unfolding outcome_of is_late
returns c = simp (ne_eqb _ _ c.if-time-eq0.false, le-ltb _ _ c.if-deadline-time.false)
