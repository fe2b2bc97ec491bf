-- The sum of the terms, and the term that tips it: the first with which it is past the deadline. Assumes nothing.
use Prim.Native.Nat.{ℕ, zero, suc, ◌+◌, ◌≤◌, ◌<◌}
use mathlib.Core.Path.{◌≡◌, refl, sym, ap, ◌∙◌}
use mathlib.Core.List.{List}
use mathlib.Core.Logic.{◌⊎◌, inl, inr}
use native.Mathlib.Numerals.{add-one}
use native.Mathlib.Decide.{dec_lt}
use native.Mathlib.Omega.{arith}
use borrow.Author.Tests.{lt-ltb, le-ltb}
use Rattle.places.specs.Places.{sum_below}
use Rattle.reasons.specs.declared.Term.{Term}
use Rattle.reasons.specs.declared.Tip.{Tip}
use Rattle.reasons.specs.declared.Tip.TheVariants.{Nothing, OwnCost, OwnBackup, Task, Faults, Supplier}
use Rattle.reasons.specs.declared.adding.Total.{Total}
use Rattle.reasons.specs.Adding.{amount, added, no_total, own_added, tasks_added, total_of}
use Rattle.reasons.proofs.Sums.{amount_at}

-- one record more
pub tasks-more : (deadline : ℕ) (tasks : List Term) (n : ℕ) (total : Total) → tasks_added deadline tasks (n + 1) total ≡ added deadline (Task n) (amount_at tasks n) (tasks_added deadline tasks n total)
unfolding tasks_added
tasks-more deadline tasks n total = ap (λ (m : ℕ). tasks_added deadline tasks m total) (add-one n)

module _ (deadline cost backup : ℕ) (tasks : List Term) (faults supplier : Term) where
  -- the sum of the terms before one of them, and of all where none is named
  unfoldable pub sum_before : Tip → ℕ
  sum_before Nothing = cost + backup + sum_below (amount_at tasks) 8 + amount faults + amount supplier
  sum_before OwnCost = 0
  sum_before OwnBackup = cost
  sum_before (Task k) = cost + backup + sum_below (amount_at tasks) k
  sum_before Faults = cost + backup + sum_below (amount_at tasks) 8
  sum_before Supplier = cost + backup + sum_below (amount_at tasks) 8 + amount faults

  -- and what that one amounts to
  unfoldable pub amount_of : Tip → ℕ
  amount_of Nothing = 0
  amount_of OwnCost = cost
  amount_of OwnBackup = backup
  amount_of (Task k) = amount_at tasks k
  amount_of Faults = amount faults
  amount_of Supplier = amount supplier

  -- without a term and those after it the sum is within the deadline, and with it past it
  pub record Tips (name : Tip) : Type 0 where
    pub without : sum_before name ≤ deadline
    pub with_it : deadline < sum_before name + amount_of name

  -- what is known of the terms added so far: the sum is within the deadline and nothing tipped it, or it is past it and the term that tipped it is known
  abbrev Known : Total → Type 0
  Known total = ((total.sum ≤ deadline) × (total.tip ≡ Nothing)) ⊎ ((deadline < total.sum) × Tips total.tip)

  -- a term more
  known_more : (name : Tip) (total : Total) → sum_before name ≡ total.sum → Known total → Known (added deadline name (amount_of name) total)
  unfolding added
  known_more name total here (inl within) = go (dec_lt deadline (total.sum + amount_of name))
    where
      go : Dec (deadline < total.sum + amount_of name) → Known (added deadline name (amount_of name) total)
      go (yes past) =
          rw (le-ltb deadline total.sum within.0, lt-ltb deadline (total.sum + amount_of name) past)
          (inr (past, record { without = omega (arith, here, within.0); with_it = omega (arith, here) }))
      go (no low) = rw (le-ltb deadline total.sum within.0, le-ltb deadline (total.sum + amount_of name) (omega arith)) (inl (omega arith, refl))
  known_more name total here (inr past) = rw (lt-ltb deadline total.sum past.0) (inr (omega (arith, past.0), past.1))

  -- the own cost and the own backup
  own-sum : (own_added deadline cost backup).sum ≡ cost + backup
  unfolding own_added added
  own-sum = omega arith

  own-known : Known (own_added deadline cost backup)
  unfolding own_added added sum_before amount_of
  own-known = known_more OwnBackup (added deadline OwnCost cost no_total) (omega arith) (known_more OwnCost no_total refl (inl (omega arith, refl)))

  -- the terms of the records
  tasks-sum : (n : ℕ) → (tasks_added deadline tasks n (own_added deadline cost backup)).sum ≡ cost + backup + sum_below (amount_at tasks) n
  unfolding tasks_added added sum_below
  tasks-sum zero = own-sum ∙ omega arith
  tasks-sum (suc n) = omega (arith, tasks-sum n)

  tasks-known : (n : ℕ) → Known (tasks_added deadline tasks n (own_added deadline cost backup))
  unfolding tasks_added amount_of sum_before
  tasks-known zero = own-known
  tasks-known (suc n) = known_more (Task n) (tasks_added deadline tasks n (own_added deadline cost backup)) (sym (tasks-sum n)) (tasks-known n)

  -- all of them
  pub total-sum : (total_of deadline cost backup tasks faults supplier).sum ≡ cost + backup + sum_below (amount_at tasks) 8 + amount faults + amount supplier
  unfolding total_of added
  total-sum = ap (λ (n : ℕ). n + amount faults + amount supplier) (tasks-sum 8)

  total-known : Known (total_of deadline cost backup tasks faults supplier)
  unfolding total_of added amount_of sum_before
  total-known =
      let before = tasks_added deadline tasks 8 (own_added deadline cost backup) in
      known_more Supplier (added deadline Faults (amount faults) before) (ap (λ (n : ℕ). n + amount faults) (sym (tasks-sum 8))) (known_more Faults before (sym (tasks-sum 8)) (tasks-known 8))

  -- where the sum is past the deadline, the term that tips it
  pub total-tips : deadline < (total_of deadline cost backup tasks faults supplier).sum → Tips (total_of deadline cost backup tasks faults supplier).tip
  total-tips past = go total-known
    where
      go : Known (total_of deadline cost backup tasks faults supplier) → Tips (total_of deadline cost backup tasks faults supplier).tip
      go (inl within) = absurd (omega (arith, within.0))
      go (inr known) = known.1

  -- and where it is not, none does
  pub total-none : (total_of deadline cost backup tasks faults supplier).sum ≤ deadline → (total_of deadline cost backup tasks faults supplier).tip ≡ Nothing
  total-none low = go total-known
    where
      go : Known (total_of deadline cost backup tasks faults supplier) → (total_of deadline cost backup tasks faults supplier).tip ≡ Nothing
      go (inl within) = within.1
      go (inr known) = absurd (omega (arith, known.0))
