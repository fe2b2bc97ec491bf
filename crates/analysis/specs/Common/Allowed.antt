-- Which choices of fault priorities a table has: "A choice is one fault priority for each record, 1 to its p", in eight entries, zero past the count.
use Rattle.std.specs.Prelude.{ℕ, ◌≤◌, ◌<◌, Bool, true, false, cond, not, ◌&&◌, List, [], ◌∷◌, eqb, get_or}
use Rattle.sheet.specs.declared.Table.{Table}
use Rattle.sheet.specs.Layout.{record_at}
use Rattle.sheet.specs.Rules.{outside}

-- an entry "outside 1 to that record's p or a nonzero entry past the count", where p is 0, is not allowed
unfoldable pub is_allowed : ℕ → ℕ → Bool
is_allowed p q = cond (eqb p 0) (eqb q 0) (not (outside q p))

-- a choice with an allowed fault priority for each record
unfoldable pub all_allowed : List ℕ → List ℕ → Bool
all_allowed [] [] = true
all_allowed [] (q ∷ qs) = false
all_allowed (p ∷ ps) [] = false
all_allowed (p ∷ ps) (q ∷ qs) = is_allowed p q && all_allowed ps qs

-- "one fault priority for each record, 1 to its p", as the code asks for it of the choices that it is given
abbrev pub Within : Table → List ℕ → Type 0
Within t choice = (place : ℕ) → place < t.count → (1 ≤ get_or choice place 0) × (get_or choice place 0 ≤ (record_at t.records place).priority)
