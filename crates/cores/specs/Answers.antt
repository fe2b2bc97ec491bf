-- What `place` answers, refusals included.
use Rattle.std.specs.Prelude.{ℕ, cond, List, eqb, replicate}
use Rattle.places.specs.Places.{filled_below}
use Rattle.places.specs.Refusals.{or_else}
use Rattle.sheet.specs.Layout.{table_of}
use Rattle.sheet.specs.Rules.{outside, whole_sheet_refusal}
use Rattle.analysis.specs.Common.Tasks.{Tasks}
use Rattle.analysis.specs.Common.Entries.{own_tasks}
use Rattle.cores.specs.Told.{Placing}
use Rattle.cores.specs.Told.Fit.{Refused, Everyone, FitsNone}
use Rattle.cores.specs.FirstFit.{core_of, fits_none}

-- "23 for a core count outside 1 to 4"
unfoldable pub number_refusal : ℕ → ℕ
number_refusal number = cond (outside number 4) 23 0

-- "Refusals: a sheet's, 19, then 23"
unfoldable pub box_refusal : List ℕ → ℕ → ℕ
box_refusal sheet number = or_else (whole_sheet_refusal sheet) (number_refusal number)

-- "each record's core", in record order, in room for eight; 0 past the count
unfoldable pub cores_of : Tasks → ℕ → List ℕ
cores_of s number = filled_below (core_of s number) s.count (replicate 8 0)

-- a refusal's number, or "the first record that fits none", from 1, no cores beside them; or each record's core
unfoldable pub placing_of : ℕ → Tasks → ℕ → Placing
placing_of refusal s number =
    cond (eqb refusal 0)
    (cond (eqb (fits_none s number) 0) (record { fit = Everyone; cores = cores_of s number }) (record { fit = FitsNone (fits_none s number); cores = replicate 8 0 }))
    (record { fit = Refused refusal; cores = replicate 8 0 })

-- `place`
unfoldable pub placing_answer : List ℕ → ℕ → Placing
placing_answer sheet number = placing_of (box_refusal sheet number) (own_tasks (table_of sheet)) number
