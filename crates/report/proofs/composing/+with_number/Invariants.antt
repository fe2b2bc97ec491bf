-- `report::composing::with_number` calls itself for the digits before the last one: the measure is the number.
use Rattle.report.proofs.composing.+with_number.Given as goal

abbrev pub decreases-with_number : goal.decreases-with_number
decreases-with_number l = l.number
