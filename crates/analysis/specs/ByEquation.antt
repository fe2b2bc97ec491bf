-- The equations one by one: what each asks of a length, the time that it gives, and what the call that is given one answers. Of struck elsewhere and struck itself, which the response time is the larger of, each time is found by itself.
use Rattle.std.specs.Prelude.{ℕ, cond, eqb}
use Rattle.sheet.specs.declared.Table.{Table}
use Rattle.analysis.specs.declared.Rule.{Rule}
use Rattle.analysis.specs.declared.Rule.TheVariants.{Published, Assured}
use Rattle.analysis.specs.declared.Equation.{Equation}
use Rattle.analysis.specs.declared.Equation.TheVariants.{Elsewhere, Itself, Assurance}
use Rattle.analysis.specs.Told.{Solution}
use Rattle.analysis.specs.Common.Tasks.{Tasks}
use Rattle.analysis.specs.Common.Entries.{own_tasks}
use Rattle.analysis.specs.Published.Equations.{struck_elsewhere, struck_itself}
use Rattle.analysis.specs.Published.Response.{time_elsewhere, time_itself}
use Rattle.analysis.specs.Assured.Equation.{assured_equation}
use Rattle.analysis.specs.Assured.Time.{assured_time}
use Rattle.analysis.specs.ByRule.{place_refusal}

-- the rule that an equation belongs to
unfoldable pub rule_of : Equation → Rule
rule_of Elsewhere = Published
rule_of Itself = Published
rule_of Assurance = Assured

-- what it asks of a length for record i
unfoldable pub asked_by : Equation → Tasks → ℕ → ℕ → ℕ
asked_by Elsewhere = struck_elsewhere
asked_by Itself = struck_itself
asked_by Assurance = assured_equation

-- its time for record i, "each of them searched for up to 65,535"; 0 where there is none
unfoldable pub time_of : Equation → Tasks → ℕ → ℕ
time_of Elsewhere = time_elsewhere 65535
time_of Itself = time_itself 65535
time_of Assurance = assured_time

-- `time_of`: the refusal of the equation's rule, then 12, beside the time under the table's own fault priorities
unfoldable pub solution_of : Equation → Table → ℕ → Solution
solution_of equation t place =
    let refusal = place_refusal (rule_of equation) t place in
    record { refusal = refusal; time = cond (eqb refusal 0) (time_of equation (own_tasks t) place) 0 }
