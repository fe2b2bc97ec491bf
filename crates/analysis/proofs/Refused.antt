-- What stands beside a refusal, in document 01's words: "In a refusal, and in entries past the count, an entry is deadline 0 beside time 0; the verdict of a refused
-- call is no"; when 12 and 13 are given; and what stands there where nothing is refused. Assumes nothing.
use Prim.Native.Nat.{ℕ, ◌≤◌, ◌<◌}
use mathlib.Core.Path.{◌≡◌, refl, sym, ap, ◌∙◌}
use mathlib.Core.Bool.{Bool, true, false}
use mathlib.Core.List.{List}
use mathlib.Core.Logic.{◌↔◌}
use native.Mathlib.Omega.{arith}
use borrow.Author.Tests.{eq-eqb, ne_eqb}
use lib.IntN.{pos}
use lib.ListN.{length, get_or, replicate, get_or-replicate}
use Rattle.places.proofs.Tells.{ltb-tells, tests}
use Rattle.places.proofs.Filled.{length-filled, filled_at, filled-past}
use Rattle.places.proofs.Refusals.{none_of}
use Rattle.sheet.specs.declared.Table.{Table}
use Rattle.sheet.specs.Rules.{table_refusal}
use Rattle.sheet.proofs.Cases.{good-table}
use Rattle.sheet.proofs.Order.{table-in-order}
use Rattle.sheet.proofs.Refused.{given-unless, passed-if}
use Rattle.analysis.specs.declared.Entry.{Entry}
use Rattle.analysis.specs.declared.Outcome.TheVariants.{OnTime, Late}
use Rattle.analysis.specs.declared.Rule.{Rule}
use Rattle.analysis.specs.declared.Slack.TheVariants.{Figure}
use Rattle.analysis.specs.Told.Interval.{Refused, Least, Nothing}
use Rattle.analysis.specs.Common.Tasks.{Tasks, tasks_of}
use Rattle.analysis.specs.Published.Response.{response_time, late, passes}
use Rattle.analysis.specs.Common.Columns.{priorities_of}
use Rattle.analysis.specs.Common.Allowed.{all_allowed}
use Rattle.analysis.specs.Common.Entries.{outcome_of, says_late, slack_of, entry_from, no_entry, own_tasks, untimed, assessed, verdict_of}
use Rattle.analysis.specs.Published.Answers.{entry_of, timed_refusal, timed_answer, choice_refusal, choice_assessment, own_assessment, least_interval, least_of, interval_answer}
use Rattle.analysis.specs.ByRule.{rule_refusal, judged_refusal, choice_assessment_by, place_refusal, timed_by}
use Rattle.analysis.specs.Bounds.Found.{no_bounds, bounds_of}
use Rattle.analysis.proofs.Laws.Common.Choice.{Allowed, allowed-exactly, own-refusal}
use Rattle.analysis.proofs.Demands.{passes-exactly}

-- "deadline 0 beside time 0"; its slack is 0
pub record Blank (e : Entry) : Type 0 where
  pub deadline : e.deadline ≡ 0
  pub time : e.outcome ≡ OnTime 0
  pub slack : e.slack ≡ Figure (pos 0)

-- the definition's entry is one
blank : (e : Entry) → e ≡ no_entry → Blank e
blank e same =
    record {
      deadline = ap (λ (x : Entry). x.deadline) same;
      time = ap (λ (x : Entry). x.outcome) same;
      slack = ap (λ (x : Entry). x.slack) same;
    }

-- "its deadline beside either a time or the word late", and the slack: what the entry of a record says of its response time
pub record Answers (s : Tasks) (place : ℕ) (e : Entry) : Type 0 where
  pub deadline : e.deadline ≡ (s.at place).deadline
  pub is-late : late s place ≡ true → e.outcome ≡ Late
  pub is-on-time : late s place ≡ false → e.outcome ≡ OnTime (response_time s place)
  pub slack : e.slack ≡ slack_of (s.at place).deadline (response_time s place)

-- the definition's entry of a record is one
answers : (s : Tasks) (place : ℕ) (e : Entry) → e ≡ entry_of s place → Answers s place e
unfolding entry_of entry_from outcome_of
answers s place e same =
    record {
      deadline = ap (λ (x : Entry). x.deadline) same;
      is-late = λ is. ap (λ (x : Entry). x.outcome) same ∙ simp is;
      is-on-time = λ is. ap (λ (x : Entry). x.outcome) same ∙ simp is;
      slack = ap (λ (x : Entry). x.slack) same;
    }

-- `response_time`
module _ (t : Table) (place : ℕ) where
  -- 12 exactly if the table is good and "the record place asked for is not below the count"
  pub timed-12 : (timed_refusal t place ≡ 12) ↔ ((table_refusal t ≡ 0) × (t.count ≤ place))
  unfolding timed_refusal
  timed-12 =
      let last = given-unless (table_refusal t) 12 (table-in-order t).range (omega arith) (ltb-tells place t.count) in
      (λ e. let h = last.0 e in (h.0, omega arith), λ h. last.1 (h.0, λ below. omega arith))

  -- refused, it gives the number beside such an entry
  pub timed-refused : (timed_refusal t place ≡ 0 → ⊥) → ((timed_answer t place).refusal ≡ timed_refusal t place) × Blank (timed_answer t place).entry
  unfolding timed_answer
  timed-refused broken = simp (ne_eqb (timed_refusal t place) 0 broken) (refl, blank no_entry refl)

  -- else 0 beside the record's answer
  pub timed-given : table_refusal t ≡ 0 → place < t.count → ((timed_answer t place).refusal ≡ 0) × Answers (own_tasks t) place (timed_answer t place).entry
  unfolding timed_answer timed_refusal
  timed-given good below =
      let fine = (passed-if (table_refusal t) 12 (table-in-order t).range (omega arith) (ltb-tells place t.count)).1 (good, below) in
      simp (eq-eqb _ 0 fine) (fine, answers (own_tasks t) place (entry_of (own_tasks t) place) refl)

-- `judge_choice`, of eight entries
module _ (t : Table) (choice : List ℕ) (eight : length choice ≡ 8) where
  -- 13 exactly if the table is good and the choice "has an entry outside 1 to that record's p or a nonzero entry past the count"; eight zeros are no choice
  pub choice-13 : (choice_refusal t choice ≡ 13) ↔ ((table_refusal t ≡ 0) × (Allowed t choice → ⊥))
  unfolding choice_refusal
  choice-13 =
      let last = given-unless (table_refusal t) 13 (table-in-order t).range (omega arith) (tests (all_allowed (priorities_of t) choice)) in
      (λ e. let h = last.0 e in (h.0, λ w. h.1 ((allowed-exactly t h.0 choice eight).1 w)), λ h. last.1 (h.0, λ e. h.1 ((allowed-exactly t h.0 choice eight).0 e)))

  -- 0 exactly if the table is good and the choice allowed
  pub choice-0 : (choice_refusal t choice ≡ 0) ↔ ((table_refusal t ≡ 0) × Allowed t choice)
  unfolding choice_refusal
  choice-0 =
      let fine = passed-if (table_refusal t) 13 (table-in-order t).range (omega arith) (tests (all_allowed (priorities_of t) choice)) in
      (λ e. let h = fine.0 e in (h.0, (allowed-exactly t h.0 choice eight).0 h.1), λ h. fine.1 (h.0, (allowed-exactly t h.0 choice eight).1 h.1))

-- `assess_choice`
module _ (t : Table) (choice : List ℕ) where
  -- refused, it gives the number beside eight such entries and no
  pub assessed-refused : (choice_refusal t choice ≡ 0 → ⊥) → choice_assessment t choice ≡ untimed (choice_refusal t choice)
  unfolding choice_assessment assessed
  assessed-refused broken = simp (ne_eqb (choice_refusal t choice) 0 broken)

  -- else 0 beside whether the sheet passes under the choice
  module _ (fine : choice_refusal t choice ≡ 0) where
    pub assessed-verdict : ((choice_assessment t choice).refusal ≡ 0) × ((choice_assessment t choice).passes ≡ passes (tasks_of t t.interval choice))
    unfolding choice_assessment assessed
    assessed-verdict = simp (eq-eqb (choice_refusal t choice) 0 fine) (fine, refl)

    good : table_refusal t ≡ 0
    unfolding choice_refusal
    good = (none_of (table_refusal t) _ fine).0

    -- beside an answer for each record, and such entries past the count
    pub assessed-times : (length (choice_assessment t choice).entries ≡ 8)
        × ((place : ℕ) → place < t.count → (other : Entry) → Answers (tasks_of t t.interval choice) place (get_or (choice_assessment t choice).entries place other))
        × ((place : ℕ) → t.count ≤ place → place < 8 → (other : Entry) → Blank (get_or (choice_assessment t choice).entries place other))
    unfolding choice_assessment assessed
    assessed-times =
        let s = tasks_of t t.interval choice in
        let few = (good-table t good).count.1 in
        simp (eq-eqb (choice_refusal t choice) 0 fine) (
          length-filled (entry_of s) t.count (replicate 8 no_entry),
          λ place below other. answers s place _ (filled_at (entry_of s) t.count (replicate 8 no_entry) other few place below),
          λ place past below other. blank _ (filled-past (entry_of s) t.count (replicate 8 no_entry) other place past ∙ get_or-replicate 8 place no_entry other below),
        )

    -- yes stands exactly beside entries of which none says late
    pub yes-exactly : (other : Entry) → ((choice_assessment t choice).passes ≡ true) ↔ ((place : ℕ) → place < t.count → says_late (get_or (choice_assessment t choice).entries place other).outcome ≡ false)
    unfolding says_late
    yes-exactly other = (
      λ yes place below. says place below ∙ (passes-exactly s).0 (sym assessed-verdict.1 ∙ yes) place below,
      λ each. assessed-verdict.1 ∙ (passes-exactly s).1 (λ place below. sym (says place below) ∙ each place below),
    )
      where
        s : Tasks
        s = tasks_of t t.interval choice

        says : (place : ℕ) → place < t.count → says_late (get_or (choice_assessment t choice).entries place other).outcome ≡ late s place
        says place below = go (late s place) refl
          where
            here : Answers s place (get_or (choice_assessment t choice).entries place other)
            here = assessed-times.1 place below other

            go : (b : Bool) → late s place ≡ b → says_late (get_or (choice_assessment t choice).entries place other).outcome ≡ b
            go true is = ap says_late (here.is-late is)
            go false is = ap says_late (here.is-on-time is)

-- eight such entries stand in the answer of a refused call
pub untimed-blank : (refusal : ℕ) (place : ℕ) → place < 8 → (other : Entry) → Blank (get_or (untimed refusal).entries place other)
untimed-blank refusal place below other = blank _ (get_or-replicate 8 place no_entry other below)

-- `assess`: it is refused exactly as the table is
pub own-refused : (t : Table) → (own_assessment t).refusal ≡ table_refusal t
unfolding own_assessment choice_assessment assessed
own-refused t = own-refusal t

-- The calls by a rule, refused: the number beside zeros, or beside no
module _ (rule : Rule) (t : Table) where
  pub choice-by-refused : (choice : List ℕ) → (judged_refusal rule t choice ≡ 0 → ⊥) → choice_assessment_by rule t choice ≡ untimed (judged_refusal rule t choice)
  unfolding choice_assessment_by assessed
  choice-by-refused choice broken = simp (ne_eqb (judged_refusal rule t choice) 0 broken)

  pub time-by-refused : (place : ℕ) → (place_refusal rule t place ≡ 0 → ⊥) → timed_by rule t place ≡ record { refusal = place_refusal rule t place; entry = no_entry }
  unfolding timed_by
  time-by-refused place broken = simp (ne_eqb (place_refusal rule t place) 0 broken)

  pub bounds-refused : (rule_refusal rule t ≡ 0 → ⊥) → bounds_of rule t ≡ no_bounds (rule_refusal rule t)
  unfolding bounds_of
  bounds-refused broken = simp (ne_eqb (rule_refusal rule t) 0 broken)

-- and of bounds and of a table that `meets_lent` and `meets_choice` refuse
pub verdict-refused : (refusal : ℕ) (said : Bool) → (refusal ≡ 0 → ⊥) → verdict_of refusal said ≡ record { refusal = refusal; yes = false }
unfolding verdict_of
verdict-refused refusal said broken = simp (ne_eqb refusal 0 broken)

-- `least_interval`
module _ (t : Table) where
  -- refused, it gives the table's number
  pub interval-refused : (table_refusal t ≡ 0 → ⊥) → interval_answer t ≡ Refused (table_refusal t)
  unfolding interval_answer least_of
  interval-refused broken = simp (ne_eqb (table_refusal t) 0 broken)

  module _ (good : table_refusal t ≡ 0) where
    -- else the least interval
    pub interval-given : 1 ≤ least_interval t → interval_answer t ≡ Least (least_interval t)
    unfolding interval_answer least_of
    interval-given some = simp (eq-eqb (table_refusal t) 0 good, ne_eqb (least_interval t) 0 (λ z. omega arith))

    -- or nothing, where there is none
    pub interval-nothing : least_interval t ≡ 0 → interval_answer t ≡ Nothing
    unfolding interval_answer least_of
    interval-nothing none = simp (eq-eqb (table_refusal t) 0 good, eq-eqb (least_interval t) 0 none)
