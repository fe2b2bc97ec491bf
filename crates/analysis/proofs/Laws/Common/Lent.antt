-- Facts of what is lent to the searches: tasks stand in order whatever choice stands beside them. Assumes nothing.
use Prim.Native.Nat.{ℕ}
use mathlib.Core.List.{List, []}
use Rattle.analysis.specs.declared.common.by_rank.Frame.{Frame}
use Rattle.analysis.specs.declared.common.tasks.Chosen.{Chosen}
use Rattle.analysis.specs.Common.ByRank.{ranked, InOrder}
use Rattle.analysis.specs.Common.Lent.{chosen_in}

-- fault priorities are none of what is asked of tasks in order
pub any_choice : (columns : List ℕ) (frame : Frame) (given faults : List ℕ) → InOrder (ranked columns frame given) → InOrder (ranked columns frame faults)
any_choice columns frame given faults order = record { few = order.few; often = order.often; round = order.round; share = order.share; cost = order.cost; period = order.period; priority = order.priority }

pub under_choice : (among : Chosen) → InOrder (chosen_in among)
under_choice among = any_choice _ _ [] _ among.tasks.order
