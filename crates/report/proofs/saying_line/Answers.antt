-- `report::saying_line` meets its contract: each saying is its words. Assumes nothing.
use Rattle.report.specs.Texts.{saying_text}
use Rattle.report.proofs.saying_line.Goals as goal

pub returns-in-NoInterval : goal.returns-in-NoInterval
unfolding saying_text
returns-in-NoInterval c = rw c.in-NoInterval.is c.begun.ensures

pub returns-in-Accepted : goal.returns-in-Accepted
unfolding saying_text
returns-in-Accepted c = rw c.in-Accepted.is c.begun-in-Accepted.ensures

pub returns-in-LoadInUse : goal.returns-in-LoadInUse
unfolding saying_text
returns-in-LoadInUse c = rw c.in-LoadInUse.is c.begun-in-LoadInUse.ensures

pub returns-in-LoadCandidate : goal.returns-in-LoadCandidate
unfolding saying_text
returns-in-LoadCandidate c = rw c.in-LoadCandidate.is c.begun-in-LoadCandidate.ensures
