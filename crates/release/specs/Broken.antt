-- The refusals of `decide` row by row, in the order they are tried, as propositions. A second reading, which the refusal is proved to follow; no public promise cites it.
use Rattle.std.specs.Prelude.{ℕ, ◌/◌, ◌%◌, ◌^◌, ◌≤◌, ◌<◌, ◌≡◌, ◌⊎◌, List, [], ◌∷◌, ◌++◌}
use Rattle.places.specs.Refusals.{Row, row}
use Rattle.sheet.specs.Layout.{table_of}
use Rattle.sheet.specs.Broken.{RuleNumber, sheet_rows}

-- the place's bit is set, "place 0 lowest"
abbrev pub Protected : ℕ → ℕ → Type 0
Protected protected place = protected / 2 ^ place % 2 ≡ 1

-- what is tried on two good sheets
unfoldable pub pair_rows : List ℕ → List ℕ → ℕ → List Row
pair_rows in_use candidate protected =
    -- "24 different counts"
    row 24 ((table_of in_use).count ≡ (table_of candidate).count → ⊥) ∷
    -- "12 a protected place outside"
    row 12 ((place : ℕ) × (place < 8) × ((table_of in_use).count ≤ place) × Protected protected place) ∷
    []

-- "Refusals, first sheet first: a sheet's, 24 different counts, 12 a protected place outside"
abbrev pub decision_rows : List ℕ → List ℕ → ℕ → List Row
decision_rows in_use candidate protected = sheet_rows in_use ++ (sheet_rows candidate ++ pair_rows in_use candidate protected)

-- the numbers of its rows
abbrev pub DecisionNumber : ℕ → Type 0
DecisionNumber r = RuleNumber r ⊎ ((r ≡ 24) ⊎ (r ≡ 12))
