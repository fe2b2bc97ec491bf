-- The refusals of mending row by row, in the order they are tried. A second reading, which the refusal is proved to follow; no public promise cites it. Assumes nothing.
use Rattle.std.specs.Prelude.{ℕ, ◌<◌, ◌≡◌, ◌⊎◌, List, [], ◌∷◌, ◌++◌, length}
use Rattle.places.specs.Refusals.{Row, row}
use Rattle.sheet.specs.Broken.{RuleNumber, sheet_rows}
use Rattle.mend.specs.Mended.{mended}

-- "the first sheet rule still broken after these changes, then 11"
abbrev pub mend_rows : List ℕ → List ℕ → List Row
mend_rows sheet out = sheet_rows (mended sheet) ++ row 11 (length out < length (mended sheet)) ∷ []

-- the numbers of these rows
abbrev pub MendNumber : ℕ → Type 0
MendNumber r = RuleNumber r ⊎ (r ≡ 11)
