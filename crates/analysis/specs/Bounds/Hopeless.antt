-- The tables with a record that is late under every choice: the lowest task, or one because of its own backup.
use Rattle.std.specs.Prelude.{ℕ, Bool, not, ◌&&◌, ◌||◌, [], ltb}
use Rattle.places.specs.Places.{some_below}
use Rattle.sheet.specs.declared.Table.{Table}
use Rattle.analysis.specs.declared.Rule.TheVariants.{Published}
use Rattle.analysis.specs.Common.Tasks.{Tasks, tasks_of}
use Rattle.analysis.specs.Published.Lowest.{lowest_late}
use Rattle.analysis.specs.Bounds.Limits.{bears}

-- whether record i does not bear its own backup though it runs at its own priority, and so is late under every choice
unfoldable pub own_missed : Tasks → ℕ → Bool
own_missed s i = not (bears Published s i (s.at i).priority (s.at i).backup)

-- whether some record does not
unfoldable pub hopeless : Table → Bool
hopeless t = some_below (own_missed (tasks_of t t.interval [])) t.count

-- whether a few searches tell that no choice meets a rule: the lowest task is late, or some record does not, which is asked of more than four, since four have 24 choices
unfoldable pub none_meets : Table → Bool
none_meets t = lowest_late t || (ltb 4 t.count && hopeless t)
