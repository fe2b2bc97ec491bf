-- The place that is told is that of a record, or 0. Assumes nothing.
use Rattle.std.proofs.Common.{◌≡◌, ℕ, ◌+◌, ◌≤◌, ◌<◌, refl, sym, ap, Bool, true, false, inl, inr, arith}
use native.Mathlib.Decide.{dec_lt}
use Rattle.places.proofs.Refusals.{first_of}
use Rattle.sheet.specs.declared.Table.{Table}
use Rattle.sheet.specs.Rules.{outside, figures_refusal, table_refusal, broken_place}
use Rattle.sheet.specs.Answers.{judged_answer}
use Rattle.sheet.proofs.Cases.{within, figures-2}
use Rattle.sheet.proofs.Demands.{broken-record, no-broken-record}
use Rattle.sheet.proofs.Told.{broken-none, broken-place}
use Rattle.intake.proofs.explanation.number.Goals as goal

-- a table that is refused for a record has a count that is 8 at most
counted : (t : Table) → 6 ≤ table_refusal t → (b : Bool) → outside t.count 8 ≡ b → t.count ≤ 8
unfolding table_refusal
counted t six true e =
    let two : 2 ≡ figures_refusal t = figures-2 t e in
    let same : table_refusal t ≡ figures_refusal t = first_of (figures_refusal t) _ (λ z. omega (arith, two, z)) in
    absurd (omega (arith, same, two, six))
counted t six false e = (within t.count 8 e).1

-- the place is 8 at most
low : (t : Table) → broken_place t ≤ 8
low t = below (dec_lt (table_refusal t) 6)
  where
    above : 6 ≤ table_refusal t → Dec (10 < table_refusal t) → broken_place t ≤ 8
    above six (yes h) = omega (arith, no-broken-record t (inr h))
    above six (no h) = omega (arith, (broken-record t (six, omega arith)).0, counted t six (outside t.count 8) refl)

    below : Dec (table_refusal t < 6) → broken_place t ≤ 8
    below (yes h) = omega (arith, no-broken-record t (inl h))
    below (no h) = above (omega arith) (dec_lt 10 (table_refusal t))

-- where no rule is broken it is the first
none : (t : Table) → table_refusal t ≡ 0 → broken_place t ≡ 0
none t good = no-broken-record t (inl (omega (arith, good)))

pub overflow_add-result : goal.overflow_add-result
unfolding judged_answer
overflow_add-result c = omega (arith, broken-place _ c.in-Err.ensures, low c.args.table)

pub returns-in-Err : goal.returns-in-Err
unfolding judged_answer
returns-in-Err c = ap (λ (n : ℕ). n + 1) (broken-place _ c.in-Err.ensures)

pub returns-in-Ok : goal.returns-in-Ok
unfolding judged_answer
returns-in-Ok c = ap (λ (n : ℕ). n + 1) (sym (none c.args.table (broken-none _ c.in-Ok.ensures)))
