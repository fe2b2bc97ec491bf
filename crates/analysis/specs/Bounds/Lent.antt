-- What bounds that are lent stand for. An inner device of the code; `bounds_lent` says which fields `meets_lent` reads.
use Rattle.analysis.specs.declared.Bounds as limits
use Rattle.analysis.specs.declared.bounding.weighed.Weighed.{Weighed}
use Rattle.analysis.specs.Told.{Bounds}
use Rattle.analysis.specs.Bounds.Within.{bounds_in}

-- bounds that are not refused
abbrev pub bounds_lent : limits.Bounds → Bounds
bounds_lent b = bounds_in 0 b.count b.priorities b.backups b.limits

abbrev pub weighed_in : Weighed → Bounds
weighed_in w = bounds_in 0 w.count w.priorities.now w.backups.now w.limits.now
