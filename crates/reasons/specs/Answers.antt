-- What the call answers, refusals included.
use Rattle.std.specs.Prelude.{ℕ, cond, false, eqb, replicate}
use Rattle.sheet.specs.declared.Table.{Table}
use Rattle.sheet.specs.Layout.{record_at}
use Rattle.analysis.specs.declared.Rule.{Rule}
use Rattle.analysis.specs.declared.Equation.{Equation}
use Rattle.analysis.specs.declared.Equation.TheVariants.{Elsewhere}
use Rattle.analysis.specs.Common.Entries.{own_tasks, is_late}
use Rattle.analysis.specs.ByRule.{place_refusal}
use Rattle.analysis.specs.ByEquation.{time_of}
use Rattle.reasons.specs.Told.{Reason}
use Rattle.reasons.specs.declared.Tip.TheVariants.{Nothing}
use Rattle.reasons.specs.Told.Whose.{Nobody}
use Rattle.reasons.specs.Deciding.{decides, length_of}
use Rattle.reasons.specs.Terms.{own_backup, task_terms, no_term, whose_of, fault_term, supplier_term}
use Rattle.reasons.specs.Adding.{total_of}

-- why the record at a place takes a time, or has none, by an equation, under the table's own fault priorities
unfoldable pub explained : Equation → ℕ → Table → ℕ → Reason
explained equation time t place =
    let s = own_tasks t in
    let own = record_at t.records place in
    let length = length_of own.deadline time in
    let tasks = task_terms equation s place length in
    let faults = fault_term equation s place length in
    let supplier = supplier_term s.round s.share length in
    let total = total_of own.deadline own.cost (own_backup equation own) tasks faults supplier in
    record {
      refusal = 0;
      equation = equation;
      length = length;
      deadline = own.deadline;
      cost = own.cost;
      backup = own_backup equation own;
      tasks = tasks;
      faults = faults;
      whose = whose_of equation s place;
      supplier = supplier;
      sum = total.sum;
      late = is_late own.deadline time;
      tip = total.tip;
    }

-- the answer of a refused call: the number beside zeros
abbrev pub no_reason : ℕ → Reason
no_reason refusal =
    record {
      refusal = refusal;
      equation = Elsewhere;
      length = 0;
      deadline = 0;
      cost = 0;
      backup = 0;
      tasks = replicate 8 no_term;
      faults = no_term;
      whose = Nobody;
      supplier = no_term;
      sum = 0;
      late = false;
      tip = Nothing;
    }

-- `why`: that of the equation that decides by a rule, after the rule's refusal and then 12, "the record place asked for is not below the count"
unfoldable pub reason_of : Rule → Table → ℕ → Reason
reason_of rule t place =
    let equation = decides rule (own_tasks t) place in
    cond (eqb (place_refusal rule t place) 0) (explained equation (time_of equation (own_tasks t) place) t place) (no_reason (place_refusal rule t place))
