-- `cores::fitting::lowest` meets its contract: before each turn no core below passes. Assumes nothing.
use lib.ListN.{get_or}
use Rattle.places.proofs.Search.{Fails}
use Rattle.analysis.specs.Common.Entries.{own_tasks}
use Rattle.cores.specs.FirstFit.{still_pass}
use Rattle.cores.proofs.fitting.lowest.Given as goal

abbrev pub invariant-loop-core : goal.invariant-loop-core
invariant-loop-core l = Fails (still_pass (own_tasks l.table) (λ k. get_or l.cores k 0) l.place) 1 l.core
