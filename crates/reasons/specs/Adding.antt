-- The terms added one after the other, in the order in which docs/EQUATIONS.md writes them, own cost, own backup, records by place, faults, supplier: their sum, and the first one with which it is past the deadline.
use Rattle.std.specs.Prelude.{ℕ, zero, suc, ◌+◌, ◌*◌, cond, List, ltb, get_or}
use Rattle.reasons.specs.declared.Term.{Term}
use Rattle.reasons.specs.declared.Tip.{Tip}
use Rattle.reasons.specs.declared.Tip.TheVariants.{Nothing, OwnCost, OwnBackup, Task, Faults, Supplier}
use Rattle.reasons.specs.declared.adding.Total.{Total}
use Rattle.reasons.specs.Terms.{no_term}

-- what a term amounts to
unfoldable pub amount : Term → ℕ
amount term = term.times * term.ticks

-- nothing added yet
abbrev pub no_total : Total
no_total = record { sum = 0; tip = Nothing }

-- a term more: it tips the sum if that was within the deadline before and is past it now
unfoldable pub added : ℕ → Tip → ℕ → Total → Total
added deadline name ticks total =
    record {
      sum = total.sum + ticks;
      tip = cond (ltb deadline total.sum) total.tip (cond (ltb deadline (total.sum + ticks)) name Nothing);
    }

-- the own cost and the own backup
unfoldable pub own_added : ℕ → ℕ → ℕ → Total
own_added deadline cost backup = added deadline OwnBackup backup (added deadline OwnCost cost no_total)

-- the terms of the records below n
unfoldable pub tasks_added : ℕ → List Term → ℕ → Total → Total
tasks_added deadline tasks zero total = total
tasks_added deadline tasks (suc n) total = added deadline (Task n) (amount (get_or tasks n no_term)) (tasks_added deadline tasks n total)

-- all of them
unfoldable pub total_of : ℕ → ℕ → ℕ → List Term → Term → Term → Total
total_of deadline cost backup tasks faults supplier =
    added deadline Supplier (amount supplier)
    (added deadline Faults (amount faults)
    (tasks_added deadline tasks 8 (own_added deadline cost backup)))
