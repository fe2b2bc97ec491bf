-- The choices of a table in their order, those under which a test holds, and those that pass. The sheet's own fault priorities play no part.
use Rattle.std.specs.Prelude.{ℕ, zero, suc, Bool, cond, List, [], ◌∷◌, ◌++◌, map}
use Rattle.sheet.specs.declared.Table.{Table}
use Rattle.analysis.specs.Common.Tasks.{Tasks, tasks_of}
use Rattle.analysis.specs.Published.Response.{passes}
use Rattle.analysis.specs.Common.Columns.{priorities_of}

-- n numbers in a row
unfoldable pub in_row : ℕ → ℕ → List ℕ
in_row from zero = []
in_row from (suc n) = from ∷ in_row (suc from) n

-- the entries allowed at a place: "one fault priority for each record, 1 to its p"; past the count, where p is 0, the entry is 0
unfoldable pub entries_for : ℕ → List ℕ
entries_for zero = 0 ∷ []
entries_for (suc p) = in_row 1 (suc p)

-- each entry before each of the rest, the first entry deciding
unfoldable pub spread : List ℕ → List (List ℕ) → List (List ℕ)
spread [] rests = []
spread (q ∷ qs) rests = map (λ rest. q ∷ rest) rests ++ spread qs rests

-- the choices, "the first record's entry decides, then the second's, and so on, smaller first"
unfoldable pub choices_of : List ℕ → List (List ℕ)
choices_of [] = [] ∷ []
choices_of (p ∷ ps) = spread (entries_for p) (choices_of ps)

-- the members that pass a test, in their order
unfoldable pub sift : {A : Type 0} → (A → Bool) → List A → List A
sift test [] = []
sift test (a ∷ l) = cond (test a) (a ∷ sift test l) (sift test l)

-- the choices under which a table's tasks pass a test
unfoldable pub chosen : (Tasks → Bool) → Table → List (List ℕ)
chosen test t = sift (λ choice. test (tasks_of t t.interval choice)) (choices_of (priorities_of t))

-- the choices under which the table passes
unfoldable pub passing_of : Table → List (List ℕ)
passing_of t = chosen passes t
