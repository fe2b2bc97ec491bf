-- The largest backup that each record bears, by either rule.
use Rattle.std.specs.Prelude.{ℕ, ◌+◌, max, Bool, cond, not, [], eqb, leb}
use Rattle.places.specs.Places.{most_below}
use Rattle.sheet.specs.declared.Table.{Table}
use Rattle.sheet.specs.Layout.{record_at}
use Rattle.analysis.specs.declared.Rule.{Rule}
use Rattle.analysis.specs.declared.Rule.TheVariants.{Published, Assured}
use Rattle.analysis.specs.Common.Tasks.{Tasks, tasks_of}
use Rattle.analysis.specs.Published.Equations.{asked_elsewhere, asked_itself}
use Rattle.analysis.specs.Common.Search.{least_within}
use Rattle.analysis.specs.Common.Entries.{is_late}
use Rattle.analysis.specs.Assured.Equation.{asked_assured}

-- what is asked of a length by a largest backup: as M where q is 0, else as N under the fault priority q
unfoldable pub asked_with : Tasks → ℕ → ℕ → ℕ → ℕ → ℕ
asked_with s i q backup = cond (eqb q 0) (asked_elsewhere s i backup) (asked_itself s i q backup)

-- what is asked of a length by a largest backup under a rule
unfoldable pub asked_by : Rule → Tasks → ℕ → ℕ → ℕ → ℕ → ℕ
asked_by Published = asked_with
asked_by Assured = asked_assured

-- whether record i is on time with that
unfoldable pub bears : Rule → Tasks → ℕ → ℕ → ℕ → Bool
bears rule s i q backup = not (is_late (s.at i).deadline (least_within (asked_by rule s i q backup) 1 65535))

-- a backup and one more where it is borne, else 0
unfoldable pub borne : (ℕ → Bool) → ℕ → ℕ
borne test backup = cond (test backup) (backup + 1) 0

-- the limit: one more than the largest backup that is borne, of 0 and those of n records; 0 where none is
unfoldable pub limit_of : (ℕ → Bool) → (ℕ → ℕ) → ℕ → ℕ
limit_of test backup n = max (most_below (λ k. borne test (backup k)) n) (borne test 0)

-- the limit of the record at a place for q, 0 past its priority
unfoldable pub limit_at : Rule → Table → ℕ → ℕ → ℕ
limit_at rule t place q =
    cond (leb q (record_at t.records place).priority)
    (limit_of (bears rule (tasks_of t t.interval []) place q) (λ k. (record_at t.records k).backup) t.count) 0
