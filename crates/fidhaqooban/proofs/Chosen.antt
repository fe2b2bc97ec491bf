-- Choices found and listed, as the answers of `fq_next` and `fq_list` and of their assured namesakes; and the assured time. Assumes nothing.
use Prim.Native.Nat.{ℕ, zero, suc, ◌*◌, ◌≤◌}
use mathlib.Core.Path.{◌≡◌, refl, sym, ap, ◌∙◌, subst}
use mathlib.Core.Bool.{Bool, true, false, cond}
use mathlib.Core.List.{List, [], ◌∷◌}
use mathlib.Core.Logic.{inl, inr}
use native.Mathlib.Decide.{ℕ_discrete}
use native.Mathlib.Nat.{suc-ne-zero}
use native.Mathlib.Omega.{arith}
use borrow.Author.Tests.{ne_eqb, ltb-false}
use lib.Dec.{eqb, ltb}
use lib.ListN.{length, drop}
use Rattle.std.specs.Prelude.{Result, Ok, Err, IfOk, ◌^◌, ◌<◌}
use Rattle.places.specs.declared.refusal.Refusal.{Refusal}
use Rattle.places.specs.Refusals.{or_else}
use Rattle.places.specs.Answered as said
use Rattle.places.specs.Answered.{IsNumber}
use Rattle.places.proofs.Refusals.{none_of, next-of}
use Rattle.places.proofs.Answered.{value_of, number_numbered, Known, known_else, known_if, known_unless}
use Rattle.sheet.specs.declared.Table.{Table}
use Rattle.sheet.specs.Layout.{table_of}
use Rattle.sheet.specs.Rules.{sheet_refusal}
use Rattle.sheet.specs.Answers.{read_answer}
use Rattle.analysis.specs.declared.Rule.{Rule}
use Rattle.analysis.specs.declared.Rule.TheVariants.{Assured}
use Rattle.analysis.specs.Told.{Timed}
use Rattle.analysis.specs.ByRule.{meets, rule_refusal, place_refusal as asked_refusal, time_by, entry_by}
use Rattle.analysis.specs.BySheet.{sheet_place_refusal, timed_in}
use Rattle.analysis.specs.Common.Entries.{entry_from, own_tasks}
use Rattle.assured.specs.Answers.{assured_refusal, place_refusal, entry_of}
use Rattle.choices.specs.declared.Walk.{Walk}
use Rattle.choices.specs.Told.Arrival.{Found, End, Refused}
use Rattle.choices.specs.Told.{Stepped, Arrival, arrived, shown}
use Rattle.choices.specs.declared.Stepped as steps
use Rattle.choices.specs.declared.Arrival.TheVariants.{Found as Came}
use Rattle.choices.specs.Choices.{chosen}
use Rattle.choices.specs.Order.{after_of}
use Rattle.choices.specs.Answers.{start_walk, arrive_at, step_from, room_refusal, list_from, start_refusal, step_by, refusal_by, list_by, leaves_by}
use Rattle.choices.specs.Stepping.{IsSmall}
use Rattle.choices.proofs.Listed.{next-listed}
use Rattle.analysis.proofs.Laws.BySheet.{rule-known}
use Rattle.fidhaqooban.specs.Numbers.{answer_of, number_from, arrival_from, time_of, entries_of, choice_of}
use Rattle.fidhaqooban.specs.Answers.{first_number, arrival_answered, next_by, listed_by, listed_left, assured_number}
use Rattle.fidhaqooban.proofs.Answered.{some, answered, no-next, good-read, table-read, good-table-read, broken-read, first-refused, number-answered}

-- the answer of a step by its refusal and by the choices after the walk
abbrev stepped_of : ℕ → Walk → List (List ℕ) → Stepped
stepped_of refusal w later = cond (eqb refusal 0) (arrive_at w later) (record { walk = start_walk; arrival = Refused refusal })

-- as a number it is the first of these choices, or the refusal
step-answered : (sheet refusal : ℕ) (w : Walk) (later : List (List ℕ)) → arrival_answered sheet (stepped_of refusal w later).arrival (stepped_of refusal w later).walk.entries ≡ answer_of (or_else sheet refusal) (first_number later)
unfolding arrival_answered arrive_at first_number
step-answered sheet zero w [] = ap (λ (r : ℕ). answer_of r 0) (sym (no-next sheet))
step-answered sheet zero w (choice ∷ later) = ap (λ (r : ℕ). answer_of r (choice_of choice)) (sym (no-next sheet))
step-answered sheet (suc n) w later = rw (some n) (answered (or_else sheet (suc n)) 0 (first_number later) (λ none. absurd (suc-ne-zero n (none_of sheet (suc n) none).1)))

-- a step that finds a choice comes to the first one
step-found : (refusal : ℕ) (w : Walk) (later : List (List ℕ)) → (stepped_of refusal w later).arrival ≡ Found → later ≡ (stepped_of refusal w later).walk.entries ∷ drop 1 later
unfolding arrive_at
step-found zero w [] e = absurd (let z : ◌≡◌ {A = ℕ} 0 1 = cc in omega arith)
step-found zero w (choice ∷ later) e = refl
step-found (suc n) w later e = absurd (let refused = simp (some n) at e in let z : ◌≡◌ {A = ℕ} 0 1 = cc in omega arith)

-- a list that is not refused has room, four bytes to each choice
room-kept : (refusal : ℕ) (list : List (List ℕ)) (out : List ℕ) → 4 * (list_from (room_refusal refusal list out) list).entries ≤ length out
unfolding list_from room_refusal
room-kept refusal list out = go (ℕ_discrete (or_else refusal (cond (ltb (length out) (4 * length list)) 11 0)) 0)
  where
    go : Dec (or_else refusal (cond (ltb (length out) (4 * length list)) 11 0) ≡ 0) → 4 * cond (eqb (or_else refusal (cond (ltb (length out) (4 * length list)) 11 0)) 0) (length list) 0 ≤ length out
    go (no bad) = rw (ne_eqb _ 0 bad) (omega arith)
    go (yes fine) = rw fine (long (ltb (length out) (4 * length list)) refl (none_of refusal _ fine).1)
      where
        long : (b : Bool) → ltb (length out) (4 * length list) ≡ b → ◌≡◌ {A = ℕ} (cond b 11 0) 0 → 4 * length list ≤ length out
        long true is z = absurd (omega arith)
        long false is z = ltb-false (length out) (4 * length list) is

-- a refusal that is one is a number of the tables
tabled : {r : ℕ} → Known r → (r ≡ 0 → ⊥) → IsNumber r
tabled (inl none) broken = absurd (broken none)
tabled (inr some) broken = some

-- the same of what the code shows of a step
arrival-told : (refusal : ℕ) (w : Walk) (later : List (List ℕ)) → Known refusal
    → arrival_from (shown (stepped_of refusal w later)).arrival (shown (stepped_of refusal w later)).walk.entries ≡ arrival_answered 0 (stepped_of refusal w later).arrival (stepped_of refusal w later).walk.entries
unfolding arrival_from arrival_answered arrive_at
arrival-told refusal w later known = go (ℕ_discrete refusal 0) later
  where
    go : Dec (refusal ≡ 0) → (later : List (List ℕ))
        → arrival_from (shown (stepped_of refusal w later)).arrival (shown (stepped_of refusal w later)).walk.entries ≡ arrival_answered 0 (stepped_of refusal w later).arrival (stepped_of refusal w later).walk.entries
    go (yes fine) [] = simp fine
    go (yes fine) (choice ∷ later) = simp fine
    go (no broken) later = rw (ne_eqb refusal 0 broken) (ap (λ (r : ℕ). answer_of r 0) (number_numbered refusal (tabled known broken) ∙ sym (next-of refusal refl)))

-- and it is found exactly where the code says so
found-told : (a : Arrival) → arrived a ≡ Came → a ≡ Found
found-told Found e = refl
found-told End e = cc
found-told (Refused refusal) e = cc

start-known : (rule : Rule) (t : Table) (start : List ℕ) → Known (start_refusal rule t start)
unfolding start_refusal
start-known rule t start = known_else (rule-known rule t) (known_unless _ 13 (inl (omega arith, omega arith)))

list-known : (rule : Rule) (t : Table) (out : List ℕ) → Known (refusal_by rule t out)
unfolding refusal_by room_refusal
list-known rule t out = known_else (rule-known rule t) (known_if _ 11 (inl (omega arith, omega arith)))

-- the answers of a sheet that is read, of the choices that hold by a rule
module _ (rule : Rule) (s : List ℕ) {table : Table} (read : Ok table ≡ said.answered (read_answer s).refusal (read_answer s).table) where
  -- the choice that a good sheet's step comes to has room in four bits for each entry
  pub step_small : (w : Walk) (stepped : steps.Stepped) → stepped ≡ shown (step_by rule table w) → stepped.arrival ≡ Came → IsSmall stepped.walk.entries
  unfolding step_by step_from
  step_small w stepped given came =
      let step : stepped ≡ shown (step_by rule (table_of s) w) = given ∙ ap (λ (t : Table). shown (step_by rule t w)) (table-read s read) in
      let first = step-found (start_refusal rule (table_of s) w.entries) w (after_of w.entries (chosen (meets rule) (table_of s))) (found-told _ (ap (λ (r : steps.Stepped). r.arrival) (sym step) ∙ came)) in
      subst (λ (r : steps.Stepped). IsSmall r.walk.entries) (sym step) (next-listed (meets rule) (table_of s) (good-table-read s read) w.entries _ _ first).narrow

  -- a step
  pub next-is : (after : ℕ) (entries : List ℕ) (stepped : steps.Stepped) → entries ≡ entries_of after → stepped ≡ shown (step_by rule table (record { entries = entries }))
      → arrival_from stepped.arrival stepped.walk.entries ≡ next_by rule s after
  unfolding step_by step_from next_by
  next-is after entries stepped from given =
      ap (λ (r : steps.Stepped). arrival_from r.arrival r.walk.entries) (given ∙ ap (λ (l : List ℕ). shown (step_by rule table (record { entries = l }))) from)
      ∙ arrival-told (start_refusal rule table (entries_of after)) (record { entries = entries_of after }) (after_of (entries_of after) (chosen (meets rule) table)) (start-known rule table (entries_of after))
      ∙ step-answered 0 (start_refusal rule table (entries_of after)) (record { entries = entries_of after }) (after_of (entries_of after) (chosen (meets rule) table))
      ∙ ap (λ (r : ℕ). answer_of r (first_number (after_of (entries_of after) (chosen (meets rule) table)))) (next-of (start_refusal rule table (entries_of after)) refl)
      ∙ ap (λ (t : Table). answer_of (start_refusal rule t (entries_of after)) (first_number (after_of (entries_of after) (chosen (meets rule) t)))) (table-read s read)
      ∙ ap (λ (r : ℕ). answer_of r (first_number (after_of (entries_of after) (chosen (meets rule) (table_of s))))) (sym (next-of _ (good-read s read)))

  -- a list
  module _ (out : List ℕ) where
    module _ {told : Result ℕ Refusal} (given : told ≡ said.answered (list_by rule table out).refusal (list_by rule table out).entries) where
      -- four bytes to each choice that is listed
      pub list-room : length out < 2 ^ 63 → IfOk told (λ entries. entries < 2 ^ 63)
      unfolding list_by refusal_by
      list-room few = go told given
        where
          go : (x : Result ℕ Refusal) → x ≡ said.answered (list_by rule table out).refusal (list_by rule table out).entries → IfOk x (λ entries. entries < 2 ^ 63)
          go (Ok entries) is = omega (arith, value_of _ _ is, room-kept (rule_refusal rule table) (chosen (meets rule) table) out, few)
          go (Err e) is = tt

      pub list-is : number_from told ≡ listed_by rule s out
      unfolding list_by list_from listed_by
      list-is =
          number-answered (list-known rule table out) told given (λ fine. simp fine)
          ∙ ap (λ (t : Table). answer_of (refusal_by rule t out) (length (chosen (meets rule) t))) (table-read s read)
          ∙ ap (λ (r : ℕ). answer_of r (length (chosen (meets rule) (table_of s)))) (sym (next-of _ (good-read s read)))

    pub list-leaves : leaves_by rule table out ≡ listed_left rule s out
    unfolding leaves_by refusal_by listed_left
    list-leaves = ap (λ (t : Table). leaves_by rule t out) (table-read s read) ∙ simp (good-read s read)

-- and those of a sheet that is refused
module _ (rule : Rule) (s : List ℕ) {e : Refusal} (read : Err e ≡ said.answered (read_answer s).refusal (read_answer s).table) where
  pub next-refused : (after : ℕ) → answer_of (said.number_of e) 0 ≡ next_by rule s after
  unfolding next_by
  next-refused after = first-refused s read _ _

  pub list-refused : (out : List ℕ) → (answer_of (said.number_of e) 0 ≡ listed_by rule s out) × (out ≡ listed_left rule s out)
  unfolding listed_by listed_left
  list-refused out = (first-refused s read _ _, simp (ne_eqb (sheet_refusal s) 0 (broken-read s read)))

-- the assured time of a place, out of a sheet's bytes
pub assured-is : (s : List ℕ) (place : ℕ) (timed : Timed) → timed ≡ timed_in Assured s place → answer_of timed.refusal (time_of timed.entry.outcome) ≡ assured_number s place
unfolding timed_in sheet_place_refusal asked_refusal rule_refusal assured_number place_refusal assured_refusal entry_by time_by entry_from entry_of
assured-is s place timed given =
    ap (λ (t : Timed). answer_of t.refusal (time_of t.entry.outcome)) given
    ∙ answered (sheet_place_refusal Assured s place) _ (time_of (entry_of (own_tasks (table_of s)) place).outcome) (λ fine. simp fine)
