-- `analysis::common::choice::is_allowed` meets its contract. Assumes nothing.
use borrow.Author.Tests.{eq-eqb, ne_eqb}
use mathlib.Core.Path.{sym}
use Rattle.analysis.proofs.Laws.Common.Choice.{not-above}
use Rattle.sheet.specs.Rules.{outside}
use Rattle.analysis.specs.Common.Allowed.{is_allowed}
use Rattle.analysis.proofs.common.choice.is_allowed.Goals as goal

pub returns-then-priority-eq0 : goal.returns-then-priority-eq0
unfolding is_allowed
returns-then-priority-eq0 c =
    simp (eq-eqb _ _ c.if-priority-eq0.true)

pub returns-then-fault-eq0 : goal.returns-then-fault-eq0
unfolding is_allowed outside
returns-then-fault-eq0 c =
    simp (ne_eqb _ _ c.if-priority-eq0.false, eq-eqb _ _ c.if-fault-eq0.true)

pub returns : goal.returns
unfolding is_allowed outside
returns c =
    simp (ne_eqb _ _ c.if-priority-eq0.false, ne_eqb _ _ c.if-fault-eq0.false) (sym (not-above c.args.fault c.args.priority))
