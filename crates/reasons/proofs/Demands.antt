-- What is asked of a reason, in the issue's words, about the definitions: the equation that decides and the length, that the terms add up, what is told of a late task, whose backup. Assumes nothing.
use Prim.Native.Nat.{ℕ, ◌+◌, ◌-◌, ◌≤◌, ◌<◌}
use mathlib.Core.Path.{◌≡◌, refl, sym, ap, ◌∙◌, subst}
use mathlib.Core.Bool.{Bool, true, false, true≢false}
use mathlib.Core.Logic.{◌↔◌, ◌⊎◌, inl, inr}
use native.Mathlib.Decide.{ℕ_discrete, dec_lt}
use native.Mathlib.Omega.{arith}
use borrow.Author.Tests.{eq-eqb, ne_eqb, le-ltb}
use lib.IntN.{pos, ◌-ℤ◌}
use Rattle.places.proofs.Refusals.{none_of}
use Rattle.sheet.specs.declared.Table.{Table}
use Rattle.sheet.specs.Layout.{record_at}
use Rattle.sheet.specs.Rules.{table_refusal}
use Rattle.sheet.proofs.Cases.{good-table, good-at, place-below}
use Rattle.analysis.specs.declared.Rule.{Rule}
use Rattle.analysis.specs.declared.Equation.{Equation}
use Rattle.analysis.specs.declared.Outcome.TheVariants.{OnTime, Late}
use Rattle.analysis.specs.declared.Slack.TheVariants.{Figure, NoFigure}
use Rattle.analysis.specs.Common.Tasks.{Tasks}
use Rattle.analysis.specs.Common.Entries.{own_tasks, is_late, outcome_of, slack_of, entry_from}
use Rattle.analysis.specs.ByRule.{rule_refusal, place_refusal, time_by, entry_by, timed_by}
use Rattle.analysis.specs.ByEquation.{asked_by, time_of}
use Rattle.analysis.proofs.Demands.{IsLeast, solution-least, solution-none}
use Rattle.analysis.proofs.Laws.ByRule.{rule-good}
use Rattle.analysis.proofs.Laws.ByEquation.{asked-rises}
use Rattle.analysis.proofs.Laws.Common.Verdicts.{on-time-within}
use Rattle.reasons.specs.Told.{Reason}
use Rattle.reasons.specs.declared.Tip.TheVariants.{Nothing}
use Rattle.reasons.specs.Deciding.{decides, length_of}
use Rattle.reasons.specs.Terms.{own_backup, task_terms, fault_term, supplier_term, meant_backup, largest_of, whose_of}
use Rattle.reasons.specs.Answers.{explained, no_reason, reason_of}
use Rattle.reasons.proofs.Longer.{decided-time}
use Rattle.reasons.proofs.Sums.{terms-asked}
use Rattle.reasons.proofs.Tipped.{Tips, total-sum, total-tips, total-none}
use Rattle.reasons.proofs.Owners.{Owner, owner-is}

-- a refused call gives its number beside zeros
pub reason-refused : (rule : Rule) (t : Table) (place : ℕ) → (place_refusal rule t place ≡ 0 → ⊥) → reason_of rule t place ≡ no_reason (place_refusal rule t place)
unfolding reason_of
reason-refused rule t place refused = simp (ne_eqb (place_refusal rule t place) 0 refused)

-- one that is not tells why the record takes its time by the equation that decides
pub reason-given : (rule : Rule) (t : Table) (place : ℕ) → place_refusal rule t place ≡ 0 → reason_of rule t place ≡ explained (decides rule (own_tasks t) place) (time_of (decides rule (own_tasks t) place) (own_tasks t) place) t place
unfolding reason_of
reason-given rule t place fine = simp (eq-eqb (place_refusal rule t place) 0 fine)

-- so it is refused as the rule says
pub reason-refusal : (rule : Rule) (t : Table) (place : ℕ) → (reason_of rule t place).refusal ≡ place_refusal rule t place
unfolding explained
reason-refusal rule t place = go (ℕ_discrete (place_refusal rule t place) 0)
  where
    go : Dec (place_refusal rule t place ≡ 0) → (reason_of rule t place).refusal ≡ place_refusal rule t place
    go (yes fine) = ap (λ (r : Reason). r.refusal) (reason-given rule t place fine) ∙ sym fine
    go (no refused) = ap (λ (r : Reason). r.refusal) (reason-refused rule t place refused)

-- what is told of a record of a good table by an equation
module _ (t : Table) (good : table_refusal t ≡ 0) (place : ℕ) (here : place < t.count) (equation : Equation) where
  abbrev s : Tasks
  s = own_tasks t

  -- the deadline, and what the equation asks of a length
  abbrev D : ℕ
  D = (record_at t.records place).deadline

  abbrev asked : ℕ → ℕ
  asked = asked_by equation s place

  -- the sum at any time is what the equation asks of the length
  sum-asked : (time : ℕ) → (explained equation time t place).sum ≡ asked (length_of D time)
  unfolding explained
  sum-asked time =
      total-sum D (record_at t.records place).cost (own_backup equation (record_at t.records place)) (task_terms equation s place (length_of D time)) (fault_term equation s place (length_of D time)) (supplier_term t.round t.share (length_of D time))
      ∙ terms-asked s place (length_of D time) equation (good-table t good).count.1

  -- every length is asked a tick at least
  asked-some : (L : ℕ) → 1 ≤ asked L
  asked-some L =
      let own = (good-at t.count (record_at t.records) (good-table t good).records place here).cost.0 in
      omega (arith, own, terms-asked s place L equation (good-table t good).count.1)

  -- the least length that is enough is asked just itself
  asked-least : (L : ℕ) → IsLeast asked 1 65535 L → asked L ≡ L
  asked-least L least = go (dec_lt 1 L)
    where
      go : Dec (1 < L) → asked L ≡ L
      go (yes long) =
          let before : L - 1 < asked (L - 1) = least.smaller (L - 1) (omega arith) (omega arith) in
          let rises : asked (L - 1) ≤ asked L = asked-rises equation s place (L - 1) L (omega arith) in
          omega (arith, before, rises, least.enough)
      go (no short) = omega (arith, least.low, least.enough, asked-some L)

  abbrev time : ℕ
  time = time_of equation s place

  -- where there is a time the sum is the length
  sum-length : 1 ≤ time → (explained equation time t place).sum ≡ (explained equation time t place).length
  unfolding explained length_of
  sum-length some =
      let there : length_of D time ≡ time = simp (ne_eqb time 0 (λ z. omega arith)) in
      sum-asked time ∙ ap asked there ∙ asked-least time ((solution-least equation s place time some).0 refl) ∙ sym there

  -- a task that is on time has a sum within its deadline, and one that is late one past it
  sum-within : is_late D time ≡ false → (explained equation time t place).sum ≤ D
  unfolding length_of
  sum-within is =
      let known = on-time-within D time is in
      let there : length_of D time ≡ time = simp (ne_eqb time 0 (λ z. omega (arith, known.0))) in
      let least = (solution-least equation s place time known.0).0 refl in
      omega (arith, sum-asked time, ap asked there, least.enough, known.1)

  sum_past : D ≤ 65535 → is_late D time ≡ true → D < (explained equation time t place).sum
  unfolding length_of is_late
  sum_past small is = go (ℕ_discrete time 0) (dec_lt D time)
    where
      some : 1 ≤ D
      some = let own = (good-at t.count (record_at t.records) (good-table t good).records place here).cost in omega (arith, own)

      go : Dec (time ≡ 0) → Dec (D < time) → D < (explained equation time t place).sum
      go (yes none) side =
          let there : length_of D time ≡ D + 1 = simp (eq-eqb time 0 none) in
          omega (arith, sum-asked time, ap asked there, (solution-none equation s place).0 none D some small, asked-rises equation s place D (D + 1) (omega arith))
      go (no there) (yes late) =
          let long : 1 ≤ time = omega arith in
          let same : length_of D time ≡ time = simp (ne_eqb time 0 there) in
          omega (arith, sum-asked time, ap asked same, ((solution-least equation s place time long).0 refl).smaller D some late, asked-rises equation s place D time (omega arith))
      go (no there) (no within) = absurd (true≢false (sym is ∙ simp (ne_eqb time 0 there, le-ltb D time (omega arith))))

-- why the record at a place takes its time by a rule, of a table and a place that are not refused
module _ (rule : Rule) (t : Table) (place : ℕ) (fine : place_refusal rule t place ≡ 0) where
  abbrev why : Reason
  why = reason_of rule t place

  abbrev tasks : Tasks
  tasks = own_tasks t

  both : (rule_refusal rule t ≡ 0) × (place < t.count)
  unfolding place_refusal
  both =
      let w = none_of (rule_refusal rule t) _ fine in
      (w.0, place-below place t.count w.1)

  good : table_refusal t ≡ 0
  good = rule-good rule t both.0

  abbrev decided : Equation
  decided = decides rule tasks place

  told : why ≡ explained decided (time_of decided tasks place) t place
  told = reason-given rule t place fine

  -- what holds of what is told by the equation that decides
  of-why : (P : Reason → Type 0) → P (explained decided (time_of decided tasks place) t place) → P why
  of-why P holds = subst P (sym told) holds

  -- the equation is the one that decides
  pub equation-decides : why.equation ≡ decides rule tasks place
  unfolding explained
  equation-decides = ap (λ (r : Reason). r.equation) told

  -- "the terms add up to the equation's demand at that length"
  pub terms-add-up : why.sum ≡ asked_by why.equation tasks place why.length
  unfolding explained
  terms-add-up = of-why (λ r. r.sum ≡ asked_by r.equation tasks place r.length) (sum-asked t good place both.1 decided (time_of decided tasks place))

  -- the length is the time by the rule, where there is one, and otherwise the deadline plus one
  pub length-told : why.length ≡ length_of (record_at t.records place).deadline (time_by rule tasks place)
  unfolding explained
  length-told = ap (λ (r : Reason). r.length) told ∙ ap (length_of (record_at t.records place).deadline) (decided-time rule tasks place)

  -- it is late exactly if its time by the rule is
  pub late-told : why.late ≡ is_late (record_at t.records place).deadline (time_by rule tasks place)
  unfolding explained
  late-told = ap (λ (r : Reason). r.late) told ∙ ap (is_late (record_at t.records place).deadline) (decided-time rule tasks place)

  -- what `time_by` answers
  timed : (timed_by rule t place).entry ≡ entry_from (record_at t.records place).deadline (time_by rule tasks place)
  unfolding timed_by entry_by
  timed = simp (eq-eqb (place_refusal rule t place) 0 fine)

  -- "the length is the response that `time_by` answers where it answers one (on time: OnTime length)"
  pub on-time-answered : why.late ≡ false → (timed_by rule t place).entry.outcome ≡ OnTime why.length
  unfolding entry_from outcome_of length_of
  on-time-answered is =
      let late = sym late-told ∙ is in
      let some = (on-time-within (record_at t.records place).deadline (time_by rule tasks place) late).0 in
      rw (timed, length-told) (simp (late, ne_eqb (time_by rule tasks place) 0 (λ z. omega arith)))

  pub late-answered : why.late ≡ true → (timed_by rule t place).entry.outcome ≡ Late
  unfolding entry_from outcome_of
  late-answered is = rw timed (simp (sym late-told ∙ is))

  -- where there is a figure, it is the deadline less the length, and where there is none the length is the deadline plus one
  pub slack-answered : ((timed_by rule t place).entry.slack ≡ Figure (pos (record_at t.records place).deadline -ℤ pos why.length))
      ⊎ (((timed_by rule t place).entry.slack ≡ NoFigure) × (why.length ≡ (record_at t.records place).deadline + 1))
  unfolding entry_from slack_of length_of
  slack-answered = go (ℕ_discrete (time_by rule tasks place) 0)
    where
      go : Dec (time_by rule tasks place ≡ 0)
          → ((timed_by rule t place).entry.slack ≡ Figure (pos (record_at t.records place).deadline -ℤ pos why.length))
          ⊎ (((timed_by rule t place).entry.slack ≡ NoFigure) × (why.length ≡ (record_at t.records place).deadline + 1))
      go (yes none) = rw (timed, length-told) (inr (simp (eq-eqb (time_by rule tasks place) 0 none), simp (eq-eqb (time_by rule tasks place) 0 none)))
      go (no some) = rw (timed, length-told) (inl (simp (ne_eqb (time_by rule tasks place) 0 some)))

  -- where there is a time, on time or late, "the sum is exactly it"
  pub sum-is-length : 1 ≤ time_by rule tasks place → why.sum ≡ why.length
  sum-is-length some =
      of-why (λ r. r.sum ≡ r.length) (sum-length t good place both.1 decided (subst (λ (n : ℕ). 1 ≤ n) (sym (decided-time rule tasks place)) some))

  -- "the sum is past the deadline exactly if the task is late"
  pub late-exactly : (record_at t.records place).deadline ≤ 65535 → (why.late ≡ true) ↔ (why.deadline < why.sum)
  unfolding explained
  late-exactly small =
      of-why (λ r. (r.late ≡ true) ↔ (r.deadline < r.sum))
      (sum_past t good place both.1 decided small, back (is_late (record_at t.records place).deadline (time_of decided tasks place)) refl)
    where
      back : (b : Bool) → is_late (record_at t.records place).deadline (time_of decided tasks place) ≡ b
          → (record_at t.records place).deadline < (explained decided (time_of decided tasks place) t place).sum → b ≡ true
      back true is past = refl
      back false is past = absurd (omega (arith, past, sum-within t good place both.1 decided is))

  -- a late task is tipped by the term that is told: "without the tipping term and those after it" the sum is not past the deadline, and with it it is
  pub late-tips : (record_at t.records place).deadline ≤ 65535 → why.late ≡ true → Tips why.deadline why.cost why.backup why.tasks why.faults why.supplier why.tip
  unfolding explained
  late-tips small is =
      let past = sum_past t good place both.1 decided small (sym (ap (λ (r : Reason). r.late) told) ∙ is) in
      of-why (λ r. Tips r.deadline r.cost r.backup r.tasks r.faults r.supplier r.tip) (total-tips _ _ _ _ _ _ past)

  -- and a task that is on time by none
  pub on-time-none : why.late ≡ false → why.tip ≡ Nothing
  unfolding explained
  on-time-none is =
      let low = sum-within t good place both.1 decided (sym (ap (λ (r : Reason). r.late) told) ∙ is) in
      of-why (λ r. r.tip ≡ Nothing) (total-none _ _ _ _ _ _ low)

  -- the backup of the faults is the largest of those that count, and it is the first record's of those that have it, or nobody's where none counts
  pub whose-told : (why.faults.ticks ≡ largest_of why.equation tasks place) × Owner (meant_backup why.equation tasks place) t.count why.whose
  unfolding explained largest_of whose_of
  whose-told =
      of-why (λ r. (r.faults.ticks ≡ largest_of r.equation tasks place) × Owner (meant_backup r.equation tasks place) t.count r.whose)
      (refl, owner-is (meant_backup decided tasks place) t.count)
