-- `mend::records::mended_fault` meets its contract. Assumes nothing.
use borrow.Author.Tests.{eq-eqb, ne_eqb, lt-ltb, le-ltb}
use Rattle.sheet.specs.Rules.{outside}
use Rattle.mend.specs.Mended.{mended_fault}
use Rattle.mend.proofs.records.mended_fault.Goals as goal

pub returns-then-fault-eq0 : goal.returns-then-fault-eq0
unfolding mended_fault outside
returns-then-fault-eq0 c = simp (eq-eqb _ _ c.if-fault-eq0.true)

pub returns-then-priority-fault : goal.returns-then-priority-fault
unfolding mended_fault outside
returns-then-priority-fault c = simp (ne_eqb _ _ c.if-fault-eq0.false, lt-ltb _ _ c.if-priority-fault.true)

pub returns-else-priority-fault : goal.returns-else-priority-fault
unfolding mended_fault outside
returns-else-priority-fault c = simp (ne_eqb _ _ c.if-fault-eq0.false, le-ltb _ _ c.if-priority-fault.false)
