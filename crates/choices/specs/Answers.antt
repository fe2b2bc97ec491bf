-- What each public call answers, refusals included, and what it leaves in the lent output.
use Rattle.std.specs.Prelude.{ℕ, ◌*◌, cond, ◌||◌, List, [], ◌∷◌, ◌++◌, eqb, ltb, length, drop, replicate}
use Rattle.places.specs.Refusals.{or_else}
use Rattle.sheet.specs.declared.Table.{Table}
use Rattle.sheet.specs.Packing.{regrouped}
use Rattle.sheet.specs.Rules.{table_refusal}
use Rattle.analysis.specs.declared.Rule.{Rule}
use Rattle.analysis.specs.Common.Columns.{priorities_of}
use Rattle.analysis.specs.Common.Allowed.{all_allowed}
use Rattle.analysis.specs.ByRule.{meets, rule_refusal}
use Rattle.choices.specs.declared.Walk.{Walk}
use Rattle.choices.specs.Told.{Stepped, Listing}
use Rattle.choices.specs.Told.Arrival.{Found, End, Refused}
use Rattle.choices.specs.Choices.{chosen, passing_of}
use Rattle.choices.specs.Order.{all_zero, after_of}

-- `Walk::start`: "before the first choice, shown by eight zero entries"
abbrev pub start_walk : Walk
start_walk = record { entries = replicate 8 0 }

-- the refusal of a step: the table's, then 13, "the choice to go on after is not all zero, and has an entry outside 1 to that record's p or a nonzero entry past the count"
unfoldable pub walk_refusal : Table → List ℕ → ℕ
walk_refusal t start = or_else (table_refusal t) (cond (all_zero start || all_allowed (priorities_of t) start) 0 13)

-- "After a passing choice the walk stands at that choice; at the end it comes back as it was"
unfoldable pub arrive_at : Walk → List (List ℕ) → Stepped
arrive_at w [] = record { walk = w; arrival = End }
arrive_at w (choice ∷ later) = record { walk = record { entries = choice }; arrival = Found }

-- a step through a list: to the first choice after the walk; "a refused step gives it back with all entries zero"
unfoldable pub step_from : ℕ → List (List ℕ) → Walk → Stepped
step_from refusal list w = cond (eqb refusal 0) (arrive_at w (after_of w.entries list)) (record { walk = start_walk; arrival = Refused refusal })

-- `step`: through the passing choices
unfoldable pub step_answer : Table → Walk → Stepped
step_answer t w = step_from (walk_refusal t w.entries) (passing_of t) w

-- "A list entry is 4 bytes: 4 bits for each record in record order, the rest zero."
unfoldable pub entry_bytes : List ℕ → List ℕ
entry_bytes choice = regrouped (replicate 8 4) (replicate 4 8) choice

-- the bytes of a list of choices, one entry after the other
unfoldable pub bytes_of : List (List ℕ) → List ℕ
bytes_of [] = []
bytes_of (choice ∷ later) = entry_bytes choice ++ bytes_of later

-- the refusal of putting a list into an output: one that comes first, then 11, "the lent output is shorter than what is to be written"
unfoldable pub room_refusal : ℕ → List (List ℕ) → List ℕ → ℕ
room_refusal refusal list out = or_else refusal (cond (ltb (length out) (4 * length list)) 11 0)

-- the refusal beside the number of entries
unfoldable pub list_from : ℕ → List (List ℕ) → Listing
list_from refusal list = record { refusal = refusal; entries = cond (eqb refusal 0) (length list) 0 }

-- the output after it: every choice of the list, and then the bytes as they were, or all of it as it was
unfoldable pub leaves_from : ℕ → List (List ℕ) → List ℕ → List ℕ
leaves_from refusal list out = cond (eqb refusal 0) (bytes_of list ++ drop (4 * length list) out) out

-- the refusal of `list`: the table's, then 11
unfoldable pub list_refusal : Table → List ℕ → ℕ
list_refusal t out = room_refusal (table_refusal t) (passing_of t) out

-- `list`: every passing choice
unfoldable pub list_answer : Table → List ℕ → Listing
list_answer t out = list_from (list_refusal t out) (passing_of t)

-- the output after `list`
unfoldable pub list_leaves : Table → List ℕ → List ℕ
list_leaves t out = leaves_from (list_refusal t out) (passing_of t) out

-- `step_by` and `list_by`: the same by a rule, with what a table is refused for under it
unfoldable pub start_refusal : Rule → Table → List ℕ → ℕ
start_refusal rule t start = or_else (rule_refusal rule t) (cond (all_zero start || all_allowed (priorities_of t) start) 0 13)

unfoldable pub step_by : Rule → Table → Walk → Stepped
step_by rule t w = step_from (start_refusal rule t w.entries) (chosen (meets rule) t) w

unfoldable pub refusal_by : Rule → Table → List ℕ → ℕ
refusal_by rule t out = room_refusal (rule_refusal rule t) (chosen (meets rule) t) out

unfoldable pub list_by : Rule → Table → List ℕ → Listing
list_by rule t out = list_from (refusal_by rule t out) (chosen (meets rule) t)

unfoldable pub leaves_by : Rule → Table → List ℕ → List ℕ
leaves_by rule t out = leaves_from (refusal_by rule t out) (chosen (meets rule) t) out
