-- What the answer to a record is as a number: all of its ticks exactly if it is accepted. Assumes nothing.
use Prim.Native.Nat.{ℕ, ◌/◌, ◌<◌}
use mathlib.Core.Path.{◌≡◌, sym, ap, subst, ◌∙◌}
use mathlib.Core.List.{List}
use mathlib.Core.Logic.{◌↔◌}
use native.Mathlib.Decide.{ℕ_discrete}
use native.Mathlib.Omega.{arith}
use lib.Dec.{ltb→lt}
use lib.IntN.{ℤ, pos}
use lib.Signed.{mag, ◌<ℤ◌}
use lib.ListN.{length}
use Rattle.sheet.specs.Layout.{table_of}
use Rattle.replay.specs.declared.Checked.{Checked}
use Rattle.replay.specs.declared.Checked.TheVariants.{Refused, Accepted, Differs}
use Rattle.replay.specs.Ticks.Machines.{machine_of}
use Rattle.replay.specs.Logs.Shown.{matching}
use Rattle.replay.specs.Logs.Answers.{compared, check_refusal, check_answer}
use Rattle.replay.proofs.OfLogs.Matched.{match-at-most, compared-refused, compared-accepted, compared-differs, accepted-only, differs-only}
use Rattle.fidhaqooban.specs.Numbers.{answer_of}
use Rattle.fidhaqooban.specs.Answers.{check_number}
use Rattle.fidhaqooban.proofs.Answered.{answered}
use Rattle.fidhaqooban.proofs.Demands.{refused-negative}

-- what an answer is as a number, beside so many ticks
unfoldable pub check_answered : ℕ → Checked → ℤ
check_answered ticks (Refused refusal) = answer_of refusal 0
check_answered ticks Accepted = answer_of 0 ticks
check_answered ticks (Differs tick) = answer_of 0 tick

-- it is the number of ticks that are the same, or the refusal
compared-answered : (refusal ticks same : ℕ) → check_answered ticks (compared refusal ticks same) ≡ answer_of refusal same
unfolding check_answered
compared-answered refusal ticks same = go (ℕ_discrete refusal 0) (ℕ_discrete same ticks)
  where
    go : Dec (refusal ≡ 0) → Dec (same ≡ ticks) → check_answered ticks (compared refusal ticks same) ≡ answer_of refusal same
    go (no broken) all = ap (check_answered ticks) (compared-refused refusal ticks same broken) ∙ answered refusal 0 same (λ e. absurd (broken e))
    go (yes passed) (yes all) = ap (check_answered ticks) (compared-accepted refusal ticks same passed all) ∙ (λ i. answer_of (sym passed i) (sym all i))
    go (yes passed) (no some) = ap (check_answered ticks) (compared-differs refusal ticks same passed some) ∙ ap (λ (r : ℕ). answer_of r same) (sym passed)

module _ (sheet supplied : List ℕ) where
  abbrev same : ℕ
  same = matching (machine_of (table_of sheet)) supplied

  module _ (checked : Checked) (given : checked ≡ check_answer sheet supplied) where
    pub check-is : check_answered (length supplied / 3) checked ≡ check_number sheet supplied
    unfolding check_answer check_number
    check-is = ap (check_answered (length supplied / 3)) given ∙ compared-answered (check_refusal sheet supplied) (length supplied / 3) same

    -- a tick that differs is one of the record's
    pub tick-below : (tick : ℕ) → checked ≡ Differs tick → tick < length supplied / 3
    unfolding check_answer
    tick-below tick told =
        let w = differs-only (check_refusal sheet supplied) (length supplied / 3) same tick (sym given ∙ told) in
        omega (arith, match-at-most (machine_of (table_of sheet)) supplied, w.1, w.2)

  -- "record_len / 3 exactly if accepted"
  pub all-exactly : (check_number sheet supplied ≡ pos (length supplied / 3)) ↔ (check_answer sheet supplied ≡ Accepted)
  unfolding check_number check_answer answer_of
  all-exactly = (λ e. go (ℕ_discrete (check_refusal sheet supplied) 0) e, λ e. (let w = accepted-only _ _ _ e in λ i. answer_of (w.0 i) (w.1 i)))
    where
      go : Dec (check_refusal sheet supplied ≡ 0) → answer_of (check_refusal sheet supplied) same ≡ pos (length supplied / 3) → check_answer sheet supplied ≡ Accepted
      go (yes passed) e = compared-accepted _ _ _ passed (ap mag (ap (λ (r : ℕ). answer_of r same) (sym passed) ∙ e))
      go (no broken) e = absurd (let below = subst (λ (z : ℤ). z <ℤ pos 0) e ((refused-negative (check_refusal sheet supplied) same).1 broken) in omega (arith, ltb→lt (length supplied / 3) 0 below.lt))
