-- Which equation decides the time of record i, and the length that its terms are told at.
use Rattle.std.specs.Prelude.{ℕ, ◌+◌, Bool, cond, not, ◌&&◌, ◌||◌, eqb, ltb}
use Rattle.sheet.specs.declared.Table.{Table}
use Rattle.analysis.specs.declared.Rule.{Rule}
use Rattle.analysis.specs.declared.Rule.TheVariants.{Published, Assured}
use Rattle.analysis.specs.declared.Equation.{Equation}
use Rattle.analysis.specs.declared.Equation.TheVariants.{Elsewhere, Itself, Assurance}
use Rattle.analysis.specs.Common.Tasks.{Tasks}
use Rattle.analysis.specs.Common.Entries.{own_tasks}
use Rattle.analysis.specs.Told.{some_of}
use Rattle.analysis.specs.ByEquation.{time_of}
use Rattle.reasons.specs.declared.deciding.Decided.{Decided}

-- whether the second of two times is the longer one; 0 is none, and none counts as longer than any time
unfoldable pub is_longer : ℕ → ℕ → Bool
is_longer first second = not (eqb first 0) && (eqb second 0 || ltb first second)

-- "The response time is the larger of the two times": by the published rule the equation with the larger one decides, and of equal ones struck elsewhere; by the assured rule there is one equation
unfoldable pub decides : Rule → Tasks → ℕ → Equation
decides Published s i = cond (is_longer (time_of Elsewhere s i) (time_of Itself s i)) Itself Elsewhere
decides Assured s i = Assurance

-- the length: the time, where there is one up to 65,535, otherwise the deadline plus one, "the first length past the deadline"
unfoldable pub length_of : ℕ → ℕ → ℕ
length_of deadline time = cond (eqb time 0) (deadline + 1) time

-- what the code finds first of a record that is not refused: the equation that decides beside its time, where it has one. An inner device; no public promise cites it
unfoldable pub decided_of : Rule → Table → ℕ → Decided
decided_of rule t place =
    let equation = decides rule (own_tasks t) place in
    record { equation = equation; time = some_of (time_of equation (own_tasks t) place) }
