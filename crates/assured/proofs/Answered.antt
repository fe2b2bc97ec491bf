-- The answers of the calls that the calls of analysis and choices give under the assured rule. Assumes nothing.
use Prim.Native.Nat.{ℕ, ◌≤◌, ◌<◌}
use mathlib.Core.Path.{◌≡◌, refl, sym, ap, ◌∙◌}
use mathlib.Core.Bool.{Bool, true, false, cond}
use native.Mathlib.Decide.{ℕ_discrete, dec_lt}
use native.Mathlib.Omega.{arith}
use borrow.Author.Tests.{eq-eqb, ne_eqb}
use lib.Dec.{eqb}
use lib.ListN.{length, get_or, replicate, get_or-replicate}
use lib.Seq.{ext_get_or}
use Rattle.places.specs.Places.{filled_below}
use Rattle.places.proofs.Filled.{filled_at, length-filled, filled-past}
use Rattle.sheet.specs.declared.Table.{Table}
use Rattle.sheet.specs.Rules.{shared_refusal}
use Rattle.sheet.proofs.Cases.{good-table}
use Rattle.analysis.specs.Told.{Assessment}
use Rattle.analysis.specs.declared.Entry.{Entry as Whole}
use Rattle.analysis.specs.Told.{Timed as WholeTimed}
use Rattle.analysis.specs.declared.Rule.TheVariants.{Assured}
use Rattle.analysis.specs.Assured.Time.{assured}
use Rattle.analysis.specs.Common.Entries.{own_tasks, entry_from, assessed, no_entry as no_whole}
use Rattle.analysis.specs.ByRule.{meets, rule_refusal, time_by, entry_by, choice_assessment_by, own_assessment_by, place_refusal as rule_place_refusal, timed_by}
use Rattle.analysis.proofs.Laws.ByRule.{rule-good, own-judged}
use Rattle.assured.specs.Told.{Timed, Times}
use Rattle.assured.specs.Answers.{assured_refusal, place_refusal, entry_of, no_entry, without_slack, time_answer, times_answer}

-- the table's own rules and 19 are what the assured rule refuses a table for
pub refusal-assured : (t : Table) → assured_refusal t ≡ rule_refusal Assured t
unfolding assured_refusal rule_refusal shared_refusal
refusal-assured t = refl

-- the answer of `time_by` without the slack
abbrev pub timed_of : WholeTimed → Timed
timed_of given = record { refusal = given.refusal; entry = without_slack given.entry }

pub time-assured : (t : Table) (place : ℕ) → timed_of (timed_by Assured t place) ≡ time_answer t place
unfolding time_answer timed_by place_refusal rule_place_refusal assured_refusal rule_refusal shared_refusal entry_by time_by entry_from entry_of
time-assured t place = go (eqb (place_refusal t place) 0)
  where
    go : (b : Bool) → timed_of (record { refusal = place_refusal t place; entry = cond b (entry_by Assured (own_tasks t) place) no_whole }) ≡ record { refusal = place_refusal t place; entry = cond b (entry_of (own_tasks t) place) no_entry }
    go true = refl
    go false = refl

-- a list of eight filled below a place, each entry under a function
pub filled-under : {A B : Type 0} (f : A → B) (g : ℕ → A) (a : A) (n : ℕ) → n ≤ 8 → filled_below (λ k. f (get_or (filled_below g n (replicate 8 a)) k a)) 8 (replicate 8 (f a)) ≡ filled_below (λ k. f (g k)) n (replicate 8 (f a))
filled-under {A} {B} f g a n few =
    ext_get_or (f a) (filled_below under 8 (replicate 8 (f a))) (filled_below (λ k. f (g k)) n (replicate 8 (f a))) (eight under 8 ∙ sym (eight (λ k. f (g k)) n))
    (λ k low. let below : k < 8 = omega (arith, eight under 8) in filled_at under 8 (replicate 8 (f a)) (f a) (omega arith) k below ∙ at k below (dec_lt k n))
  where
    under : ℕ → B
    under k = f (get_or (filled_below g n (replicate 8 a)) k a)

    eight : (h : ℕ → B) (m : ℕ) → length (filled_below h m (replicate 8 (f a))) ≡ 8
    eight h m = length-filled h m (replicate 8 (f a))

    at : (k : ℕ) → k < 8 → Dec (k < n) → under k ≡ get_or (filled_below (λ j. f (g j)) n (replicate 8 (f a))) k (f a)
    at k low (yes below) = ap f (filled_at g n (replicate 8 a) a few k below) ∙ sym (filled_at (λ j. f (g j)) n (replicate 8 (f a)) (f a) few k below)
    at k low (no over) =
        ap f (filled-past g n (replicate 8 a) a k (omega arith) ∙ get_or-replicate 8 k a a low)
        ∙ sym (filled-past (λ j. f (g j)) n (replicate 8 (f a)) (f a) k (omega arith) ∙ get_or-replicate 8 k (f a) (f a) low)

-- the answer of `assess_by` without the slacks
abbrev pub times_of : Assessment → Times
times_of given =
    record { refusal = given.refusal; entries = filled_below (λ k. without_slack (get_or given.entries k no_whole)) 8 (replicate 8 no_entry); assured = given.passes }

entries-of : (refusal : ℕ) (entry : ℕ → Whole) (n : ℕ) → (refusal ≡ 0 → n ≤ 8)
    → filled_below (λ k. without_slack (get_or (cond (eqb refusal 0) (filled_below entry n (replicate 8 no_whole)) (replicate 8 no_whole)) k no_whole)) 8 (replicate 8 no_entry)
    ≡ cond (eqb refusal 0) (filled_below (λ k. without_slack (entry k)) n (replicate 8 no_entry)) (replicate 8 no_entry)
unfolding filled_below
entries-of refusal entry n few = go (ℕ_discrete refusal 0)
  where
    go : Dec (refusal ≡ 0) → filled_below (λ k. without_slack (get_or (cond (eqb refusal 0) (filled_below entry n (replicate 8 no_whole)) (replicate 8 no_whole)) k no_whole)) 8 (replicate 8 no_entry)
        ≡ cond (eqb refusal 0) (filled_below (λ k. without_slack (entry k)) n (replicate 8 no_entry)) (replicate 8 no_entry)
    go (yes fine) = rw (eq-eqb refusal 0 fine) (filled-under without_slack entry no_whole n (few fine))
    go (no broken) = rw (ne_eqb refusal 0 broken) (filled-under without_slack entry no_whole 0 (omega arith))

pub times-assured : (t : Table) → times_of (own_assessment_by Assured t) ≡ times_answer t
unfolding own_assessment_by choice_assessment_by assessed times_answer meets entry_by time_by entry_from entry_of
times-assured t =
    let s = own_tasks t in
    let refusal = own-judged Assured t ∙ sym (refusal-assured t) in
    let few : assured_refusal t ≡ 0 → t.count ≤ 8 = λ fine. (good-table t (rule-good Assured t (sym (refusal-assured t) ∙ fine))).count.1 in
    ap (λ (r : ℕ). times_of (assessed r (entry_by Assured s) t.count (meets Assured s))) refusal
    ∙ (λ j. record { refusal = assured_refusal t; entries = entries-of (assured_refusal t) (entry_by Assured s) t.count few j; assured = cond (eqb (assured_refusal t) 0) (assured s) false })
