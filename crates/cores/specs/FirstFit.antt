-- First fit, over any tasks and any number of cores: "Take records in order and put each on the lowest-numbered core where that core's tasks still pass". Cores are numbered from 1; 0 stands for none.
use Rattle.std.specs.Prelude.{ℕ, zero, suc, ◌-◌, Bool, cond, ◌||◌, eqb}
use Rattle.places.specs.Search.{first_from}
use Rattle.analysis.specs.Common.Tasks.{Tasks}
use Rattle.analysis.specs.Published.Response.{passes}
use Rattle.cores.specs.Renumbered.{core_tasks}

-- whether a record is on the core or is the one at the place, where each record's core is given
unfoldable pub joins : (ℕ → ℕ) → ℕ → ℕ → ℕ → Bool
joins cores place core k = eqb k place || eqb (cores k) core

-- "where that core's tasks still pass" with the record at the place, beside those before it that are on the core
unfoldable pub still_pass : Tasks → (ℕ → ℕ) → ℕ → ℕ → Bool
still_pass s cores place core = passes (core_tasks s (joins cores place core) (suc place))

-- "the lowest-numbered core" of so many
unfoldable pub lowest_core : Tasks → ℕ → (ℕ → ℕ) → ℕ → ℕ
lowest_core s number cores place = first_from (still_pass s cores place) 1 number

-- "Take records in order": the cores as they stand before the place is taken, each record's core or 0
unfoldable pub cores_before : Tasks → ℕ → ℕ → ℕ → ℕ
cores_before s number zero k = 0
cores_before s number (suc place) k = cond (eqb k place) (lowest_core s number (cores_before s number place) place) (cores_before s number place k)

-- the core that the record at a place is put on, 0 where it fits none
unfoldable pub core_of : Tasks → ℕ → ℕ → ℕ
core_of s number place = lowest_core s number (cores_before s number place) place

-- "the first record that fits none", from 1; 0 where each has its core
unfoldable pub fits_none : Tasks → ℕ → ℕ
fits_none s number = first_from (λ taken. eqb (core_of s number (taken - 1)) 0) 1 s.count
