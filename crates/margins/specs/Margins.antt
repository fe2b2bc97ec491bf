-- The margin: the largest, or the least, value of what is changed "with which the sheet still passes, everything else as it is and the sheet still good".
use Rattle.std.specs.Prelude.{ℕ, zero, suc, ◌+◌, Bool, true, false, cond, eqb}
use Rattle.places.specs.Search.{first_from}
use Rattle.sheet.specs.declared.Record.{Record}
use Rattle.sheet.specs.declared.Table.{Table}
use Rattle.sheet.specs.Layout.{record_at}
use Rattle.analysis.specs.declared.Rule.{Rule}
use Rattle.analysis.specs.Common.Entries.{own_tasks}
use Rattle.analysis.specs.ByRule.{meets, rule_refusal}
use Rattle.margins.specs.declared.Field.{Field}
use Rattle.margins.specs.declared.Field.TheVariants.{Cost, Backup, Deadline, Period}
use Rattle.margins.specs.declared.changing.Change.{Change}
use Rattle.margins.specs.declared.changing.Change.TheVariants.{One, All}
use Rattle.margins.specs.Changes.{changed}

-- whether a table is good and meets the rule "with its own fault priorities"
unfoldable pub holds : Rule → Table → Bool
holds rule t = cond (eqb (rule_refusal rule t) 0) (meets rule (own_tasks t)) false

-- whether it is and does with a change
unfoldable pub holds_with : Rule → Table → Change → ℕ → Bool
holds_with rule t change value = holds rule (changed change value t)

-- "the largest cost, the largest backup, the least deadline and the least period": whether it is the least that is asked for
unfoldable pub least_field : Field → Bool
least_field Cost = false
least_field Backup = false
least_field Deadline = true
least_field Period = true

-- "and the largest factor"
unfoldable pub asks_least : Change → Bool
asks_least (One field place) = least_field field
asks_least All = false

-- the largest value that a good sheet can have in a field: no cost and no backup is above its deadline, no deadline above its period, and no period above 65,535
unfoldable pub last_field : Field → Record → ℕ
last_field Cost r = r.deadline
last_field Backup r = r.deadline
last_field Deadline r = r.period
last_field Period r = 65535

-- the largest value that is tried: that, and for the factor 65,535,000, "which is searched from 1 to 65,535,000"
unfoldable pub last_of : Table → Change → ℕ
last_of t (One field place) = last_field field (record_at t.records place)
last_of t All = 65535000

-- the last of the n numbers from the start on that passes the test, 0 where there is none
unfoldable pub last_from : (ℕ → Bool) → ℕ → ℕ → ℕ
last_from test start zero = 0
last_from test start (suc n) = let earlier = last_from test start n in cond (test (start + n)) (start + n) earlier

-- the margin, of the values from 1 up to the last one; 0 for "none, where no value does"
unfoldable pub margin_of : Rule → Table → Change → ℕ
margin_of rule t change = cond (asks_least change) (first_from (holds_with rule t change) 1 (last_of t change)) (last_from (holds_with rule t change) 1 (last_of t change))
