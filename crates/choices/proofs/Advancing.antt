-- From one choice to the next for which a test holds: what stepping through the choices keeps, and what a start is refused for. Assumes nothing.
use Prim.Native.Nat.{ℕ, ◌≤◌, ◌<◌}
use mathlib.Core.Path.{◌≡◌, refl, sym, ap, ◌∙◌, subst}
use mathlib.Core.Bool.{Bool, true, false, cond}
use mathlib.Core.List.{List, [], ◌∷◌}
use mathlib.Core.Logic.{◌↔◌}
use native.Mathlib.Nat.{suc-ne-zero}
use native.Mathlib.Decide.{ℕ_discrete}
use native.Mathlib.Omega.{arith}
use lib.ListN.{length, get_or, drop, replicate}
use Rattle.std.specs.Prelude.{Some, None, slice_get}
use Rattle.places.specs.Refusals.{or_else}
use Rattle.places.proofs.Tells.{tests}
use Rattle.places.proofs.Filled.{alike_at, filled_within}
use Rattle.places.proofs.Refusals.{none_of, next-of, first_of}
use Rattle.sheet.specs.declared.Table.{Table}
use Rattle.sheet.specs.Layout.{record_at}
use Rattle.sheet.specs.Rules.{table_refusal}
use Rattle.sheet.proofs.Order.{table-in-order}
use Rattle.sheet.proofs.Refused.{passed-if}
use Rattle.sheet.proofs.Cases.{good-table, good-at}
use Rattle.analysis.specs.declared.Rule.{Rule}
use Rattle.analysis.specs.Common.Tasks.{Tasks, tasks_of}
use Rattle.analysis.specs.Common.Columns.{priorities_of}
use Rattle.analysis.specs.Common.Allowed.{all_allowed}
use Rattle.analysis.specs.Common.Entries.{verdict_of}
use Rattle.analysis.specs.ByRule.{meets, rule_refusal, judged_refusal, meets_answer}
use Rattle.analysis.proofs.Laws.Common.Choice.{length-priorities, priority-at}
use Rattle.analysis.proofs.Laws.ByRule.{rule-good}
use Rattle.choices.specs.Choices.{choices_of, sift, chosen}
use Rattle.choices.specs.Order.{after_of}
use Rattle.choices.specs.Answers.{walk_refusal, start_refusal}
use Rattle.choices.specs.Stepping.{next_of, Levels}
use Rattle.choices.proofs.Sifted.{sift-keeps, sift-drops, sift-sift-commute}
use Rattle.choices.proofs.Onward.{starts_in, onward, after_next, next-allowed}

-- whether a test of a table's tasks meets under a choice
abbrev pub test_with : (Tasks → Bool) → Table → List ℕ → Bool
test_with test t choice = test (tasks_of t t.interval choice)

-- the start, or an allowed choice
abbrev pub starts : Table → List ℕ → Bool
starts t start = starts_in (priorities_of t) start

-- a start is not refused exactly if the table is good and it is one of these
pub good_start : (t : Table) (start : List ℕ) → (walk_refusal t start ≡ 0) ↔ ((table_refusal t ≡ 0) × (starts t start ≡ true))
unfolding walk_refusal
good_start t start = passed-if (table_refusal t) 13 (table-in-order t).range (omega arith) (tests (starts t start))

-- the same under a rule
pub start-good : (rule : Rule) (t : Table) (start : List ℕ) → start_refusal rule t start ≡ 0 → (rule_refusal rule t ≡ 0) × (starts t start ≡ true)
unfolding start_refusal
start-good rule t start e =
    let both = none_of (rule_refusal rule t) (cond (starts t start) 0 13) e in
    (both.0, kept (starts t start) both.1)
  where
    kept : (b : Bool) → ◌≡◌ {A = ℕ} (cond b 0 13) 0 → b ≡ true
    kept true z = refl
    kept false z = absurd (suc-ne-zero 12 z)

-- a good table has a first record, with a priority of 1 at least
pub first-priority : (t : Table) → table_refusal t ≡ 0 → 1 ≤ get_or (priorities_of t) 0 0
first-priority t good =
    let known = good-table t good in
    let some : 0 < t.count = omega (arith, known.count.0) in
    subst (λ (n : ℕ). 1 ≤ n) (sym (priority-at t known.count.1 0 some)) (good-at t.count (record_at t.records) known.records 0 some).priority.0

-- and none above 8
pub table-levels : (t : Table) → table_refusal t ≡ 0 → Levels (priorities_of t)
unfolding priorities_of
table-levels t good =
    let known = good-table t good in
    record {
      eight = length-priorities t;
      first = first-priority t good;
      few = filled_within 8 (λ place. (record_at t.records place).priority) (replicate 8 0) (λ k. omega (arith, alike_at {A = ℕ} 0 8 k)) t.count
          (λ k h. omega (arith, (good-at t.count (record_at t.records) known.records k h).priority.1, known.count.1));
    }

-- through the choices of some priorities for which a test holds
module _ (ps : List ℕ) (test : List ℕ → Bool) (some : 1 ≤ get_or ps 0 0) (choice : List ℕ) (same : length choice ≡ length ps) (start : starts_in ps choice ≡ true) where
  -- those for which it holds
  abbrev listed : List (List ℕ)
  listed = sift test (choices_of ps)

  -- the next choice
  abbrev later : List ℕ
  later = (next_of ps choice).entries

  stepped : after_of choice (choices_of ps) ≡ onward ps (next_of ps choice)
  stepped = after_next ps choice some same start

  -- where there is no next choice, none for which the test holds is left
  pub none_left : (next_of ps choice).rose ≡ false → after_of choice listed ≡ []
  unfolding sift
  none_left e = sift-sift-commute choice test (choices_of ps) ∙ ap (sift test) (stepped ∙ ap (λ (b : Bool). cond b (later ∷ after_of later (choices_of ps)) []) e)

  module _ (there : (next_of ps choice).rose ≡ true) where
    onto : after_of choice (choices_of ps) ≡ later ∷ after_of later (choices_of ps)
    onto = stepped ∙ ap (λ (b : Bool). cond b (later ∷ after_of later (choices_of ps)) []) there

    -- fewer choices come after it
    pub fewer : length (after_of later (choices_of ps)) < length (after_of choice (choices_of ps))
    fewer = omega (arith, ap length onto)

    -- if the test holds for it, it is the first of those
    pub passing-next : test later ≡ true → after_of choice listed ≡ later ∷ after_of later listed
    passing-next yes-it =
        sift-sift-commute choice test (choices_of ps) ∙ ap (sift test) onto ∙ sift-keeps test later _ yes-it ∙ ap (λ (l : List (List ℕ)). later ∷ l) (sym (sift-sift-commute later test (choices_of ps)))

    -- if not, those come after it too
    pub failing-next : test later ≡ false → after_of choice listed ≡ after_of later listed
    failing-next not-it =
        sift-sift-commute choice test (choices_of ps) ∙ ap (sift test) onto ∙ sift-drops test later _ not-it ∙ sym (sift-sift-commute later test (choices_of ps))

-- the first of a list that is found
pub came-to : {l rest : List (List ℕ)} {c : List ℕ} → l ≡ c ∷ rest → Some c ≡ slice_get l 0
came-to e = ap (λ (l : List (List ℕ)). slice_get l 0) (sym e)

-- none of an empty one
pub came-to-end : {l : List (List ℕ)} → l ≡ [] → None ≡ slice_get l 0
came-to-end e = ap (λ (l : List (List ℕ)). slice_get l 0) (sym e)

-- a list whose first choice is none is empty, and any other starts with it
pub none_came : (l : List (List ℕ)) → None ≡ slice_get l 0 → l ≡ []
none_came [] e = refl
none_came (c ∷ l) e = cc

pub one_came : (l : List (List ℕ)) (c : List ℕ) → Some c ≡ slice_get l 0 → l ≡ c ∷ drop 1 l
one_came [] c e = cc
one_came (d ∷ l) c e =
    let same : d ≡ c = cc in
    ap (λ (x : List ℕ). x ∷ l) same

-- The same of the choices of a table that a rule does not refuse, which meet it or not
module _ (rule : Rule) (t : Table) (fine : rule_refusal rule t ≡ 0) where
  -- whether an allowed one meets it, as `meets_choice` answers
  pub answer-meets : (choice : List ℕ) → all_allowed (priorities_of t) choice ≡ true → (meets_answer rule t choice).yes ≡ test_with (meets rule) t choice
  unfolding meets_answer verdict_of judged_refusal
  answer-meets choice allowed =
      let judged : judged_refusal rule t choice ≡ 0 = next-of {a = rule_refusal rule t} (cond (all_allowed (priorities_of t) choice) 0 13) fine ∙ simp allowed in
      simp judged

  module _ (choice : List ℕ) (eight : length choice ≡ 8) (start : starts t choice ≡ true) where
    abbrev after : List ℕ
    after = (next_of (priorities_of t) choice).entries

    first : 1 ≤ get_or (priorities_of t) 0 0
    first = first-priority t (rule-good rule t fine)

    whole : length choice ≡ length (priorities_of t)
    whole = eight ∙ sym (length-priorities t)

    pub none_after : (next_of (priorities_of t) choice).rose ≡ false → after_of choice (chosen (meets rule) t) ≡ []
    unfolding chosen
    none_after = none_left (priorities_of t) (test_with (meets rule) t) first choice whole start

    pub meeting-after : (next_of (priorities_of t) choice).rose ≡ true → (meets_answer rule t after).yes ≡ true → after_of choice (chosen (meets rule) t) ≡ after ∷ after_of after (chosen (meets rule) t)
    unfolding chosen
    meeting-after there yes-it = passing-next (priorities_of t) (test_with (meets rule) t) first choice whole start there (sym (answer-meets after (next-allowed (priorities_of t) choice start)) ∙ yes-it)

    pub missing-after : (next_of (priorities_of t) choice).rose ≡ true → (meets_answer rule t after).yes ≡ false → after_of choice (chosen (meets rule) t) ≡ after_of after (chosen (meets rule) t)
    unfolding chosen
    missing-after there not-it = failing-next (priorities_of t) (test_with (meets rule) t) first choice whole start there (sym (answer-meets after (next-allowed (priorities_of t) choice start)) ∙ not-it)

-- a start that is none is refused as the table, and then with 13
module _ (rule : Rule) (t : Table) (ps start : List ℕ) (same : t.count ≤ 8 → ps ≡ priorities_of t) where
  here : rule_refusal rule t ≡ 0 → ps ≡ priorities_of t
  here fine = same (good-table t (rule-good rule t fine)).count.1

  pub no_start : starts_in ps start ≡ false → or_else (rule_refusal rule t) 13 ≡ start_refusal rule t start
  unfolding start_refusal
  no_start none = go (ℕ_discrete (rule_refusal rule t) 0)
    where
      go : Dec (rule_refusal rule t ≡ 0) → or_else (rule_refusal rule t) 13 ≡ or_else (rule_refusal rule t) (cond (starts t start) 0 13)
      go (yes fine) = ap (λ (b : Bool). or_else (rule_refusal rule t) (cond b 0 13)) (sym none ∙ ap (λ (l : List ℕ). starts_in l start) (here fine))
      go (no broken) = first_of (rule_refusal rule t) 13 broken ∙ sym (first_of (rule_refusal rule t) (cond (starts t start) 0 13) broken)

  -- any other as the choice right after it
  pub start-judged : starts_in ps start ≡ true → judged_refusal rule t (next_of ps start).entries ≡ start_refusal rule t start
  unfolding start_refusal judged_refusal
  start-judged may = go (ℕ_discrete (rule_refusal rule t) 0)
    where
      go : Dec (rule_refusal rule t ≡ 0) → or_else (rule_refusal rule t) (cond (all_allowed (priorities_of t) (next_of ps start).entries) 0 13) ≡ or_else (rule_refusal rule t) (cond (starts t start) 0 13)
      go (yes fine) =
          ap (λ (b : Bool). or_else (rule_refusal rule t) (cond b 0 13))
          (ap (λ (l : List ℕ). all_allowed l (next_of ps start).entries) (sym (here fine)) ∙ next-allowed ps start may ∙ sym may ∙ ap (λ (l : List ℕ). starts_in l start) (here fine))
      go (no broken) = first_of (rule_refusal rule t) _ broken ∙ sym (first_of (rule_refusal rule t) (cond (starts t start) 0 13) broken)

  -- and where it is not refused, the priorities are the table's
  pub start-known : start_refusal rule t start ≡ 0 → (rule_refusal rule t ≡ 0) × (starts t start ≡ true) × (ps ≡ priorities_of t)
  start-known e =
      let known = start-good rule t start e in
      (known.0, known.1, here known.0)
