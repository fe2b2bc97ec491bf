-- The answers of a sheet that is read and asked: what each crate below answers, as a number, is what the definitions say.
-- Assumes nothing.
use Prim.Native.Nat.{ℕ, zero, suc, ◌+◌, ◌*◌, ◌≤◌, ◌<◌}
use mathlib.Core.Path.{◌≡◌, refl, sym, ap, subst, ◌∙◌}
use mathlib.Core.Bool.{Bool, true, false, cond}
use mathlib.Core.List.{List}
use native.Mathlib.Decide.{ℕ_discrete}
use native.Mathlib.Nat.{suc-ne-zero}
use native.Mathlib.Omega.{arith}
use borrow.Author.Tests.{ne_eqb}
use lib.Dec.{eqb, ltb}
use mir.Val.{bool_byte}
use Rattle.std.specs.Prelude.{Option, Result, Ok, Err}
use Rattle.places.specs.declared.refusal.Refusal.{Refusal}
use Rattle.places.specs.Refusals.{or_else}
use Rattle.places.specs.Answered as said
use Rattle.places.proofs.Answered.{good_of, value_of, broken_of, told_number, Known}
use Rattle.places.proofs.Refusals.{first_of, next-of, none_of}
use Rattle.sheet.specs.declared.Table.{Table}
use Rattle.sheet.specs.Layout.{count_of, edition_of, start_of, table_of}
use Rattle.sheet.specs.Rules.{sheet_refusal, table_refusal}
use Rattle.sheet.specs.Answers.{read_answer, place_refusal, part_start}
use Rattle.sheet.proofs.Cases.{good-place, good-table}
use Rattle.sheet.proofs.Demands.{table-good}
use Rattle.sheet.proofs.Told.{read-told, sheet-known}
use Rattle.analysis.specs.declared.Entry.{Entry}
use Rattle.analysis.specs.Told.{Timed, Assessment, least_told}
use Rattle.analysis.specs.declared.Rule.{Rule}
use Rattle.analysis.specs.declared.Rule.TheVariants.{Published}
use Rattle.analysis.specs.Common.Entries.{own_tasks, assessed}
use Rattle.analysis.specs.Published.Answers.{entry_of, least_interval, least_of, interval_answer}
use Rattle.analysis.specs.ByRule.{rule_refusal, meets, place_refusal as asked_refusal, time_by, entry_by, choice_assessment_by, own_assessment_by}
use Rattle.analysis.specs.BySheet.{sheet_place_refusal, timed_in, assessed_in}
use Rattle.analysis.proofs.Laws.ByRule.{own-judged}
use Rattle.analysis.proofs.Laws.BySheet.{sheet-place-known, sheet-rule-known, assessed-refusal}
use Rattle.fidhaqooban.specs.Numbers.{answer_of, number_from, interval_from, time_of}
use Rattle.fidhaqooban.specs.Answers.{response_number, verdict_number, interval_number, record_number}

-- a number that is not 0 is tested so
pub some : (n : ℕ) → eqb (suc n) 0 ≡ false
some n = ne_eqb (suc n) 0 (suc-ne-zero n)

-- the value of an answer matters only where it is not refused
pub answered : (refusal value other : ℕ) → (refusal ≡ 0 → value ≡ other) → answer_of refusal value ≡ answer_of refusal other
unfolding answer_of
answered zero value other same = ap (answer_of 0) (same refl)
answered (suc n) value other same = simp (some n)

-- nothing to refuse after a refusal
pub no-next : (first : ℕ) → or_else first 0 ≡ first
unfolding or_else
no-next zero = refl
no-next (suc n) = simp (some n)

-- a place that is not refused is one of eight
pub place-few : (s : List ℕ) (place refusal : ℕ) → refusal ≡ place_refusal s place → refusal ≡ 0 → place < 8
place-few s place refusal e left =
    let known = good-place s place (sym e ∙ left) in
    omega (arith, known.0.count.1, known.1)

-- where the record at a place starts, as a number
module _ (s : List ℕ) (place : ℕ) where
  pub start_small : part_start s place < 128
  unfolding part_start start_of
  start_small = go (ℕ_discrete (place_refusal s place) 0)
    where
      go : Dec (place_refusal s place ≡ 0) → cond (eqb (place_refusal s place) 0) (3 + 4 * edition_of s + 9 * place) 0 < 128
      go (yes fine) =
          let known = good-place s place fine in
          simp fine (omega (arith, known.0.edition, place-few s place (place_refusal s place) refl fine))
      go (no broken) = simp (ne_eqb (place_refusal s place) 0 broken) (omega arith)

  pub start-answered : answer_of (place_refusal s place) (part_start s place) ≡ record_number s place
  unfolding record_number part_start
  start-answered = answered (place_refusal s place) _ _ (λ fine. simp fine)

-- what is known after a sheet is read
module _ (s : List ℕ) {table : Table} (read : Ok table ≡ said.answered (read_answer s).refusal (read_answer s).table) where
  pub good-read : sheet_refusal s ≡ 0
  good-read = (read-told s read).0

  pub table-read : table ≡ table_of s
  table-read = (read-told s read).1

  pub good-table-read : table_refusal (table_of s) ≡ 0
  good-table-read = table-good s good-read

  pub count-read : table.count ≤ 8
  count-read = rw table-read (good-table (table_of s) good-table-read).count.1

-- and after it is refused: its number, whatever else is asked
module _ (s : List ℕ) {e : Refusal} (read : Err e ≡ said.answered (read_answer s).refusal (read_answer s).table) where
  pub broken-read : sheet_refusal s ≡ 0 → ⊥
  unfolding read_answer
  broken-read = broken_of _ _ read

  pub number-read : said.number_of e ≡ sheet_refusal s
  unfolding read_answer
  number-read = told_number _ _ (sheet-known s) read

  module _ (value : ℕ) where
    pub sheet-refused : answer_of (said.number_of e) 0 ≡ answer_of (sheet_refusal s) value
    sheet-refused = ap (λ (r : ℕ). answer_of r 0) number-read ∙ answered (sheet_refusal s) 0 value (λ good. absurd (broken-read good))

    pub first-refused : (next : ℕ) → answer_of (said.number_of e) 0 ≡ answer_of (or_else (sheet_refusal s) next) value
    first-refused next = sheet-refused ∙ ap (λ (r : ℕ). answer_of r value) (sym (first_of (sheet_refusal s) next broken-read))

-- an answer as a number
pub number-answered : {r value other : ℕ} → Known r → (x : Result ℕ Refusal) → x ≡ said.answered r value → (r ≡ 0 → value ≡ other) → number_from x ≡ answer_of r other
unfolding number_from
number-answered {r} {value} {other} known (Ok n) is same =
    let fine = good_of r value is in
    ap (answer_of 0) (value_of r value is ∙ same fine) ∙ ap (λ (k : ℕ). answer_of k other) (sym fine)
number-answered {r} {value} {other} known (Err e) is same =
    ap (λ (k : ℕ). answer_of k 0) (told_number r value known is) ∙ answered r 0 other (λ fine. absurd (broken_of r value is fine))

-- a yes is the number 1, a no 0
pub bool-number : (b : Bool) → bool_byte b ≡ cond b 1 0
bool-number true = refl
bool-number false = refl

-- a value that was answered, as a number, and a refusal that was
module _ {A : Type 0} (r : ℕ) (a : A) where
  pub ok-number : {x : A} → Ok x ≡ said.answered r a → (f : A → ℕ) → answer_of 0 (f x) ≡ answer_of r (f a)
  ok-number is f = ap (λ (x : A). answer_of 0 (f x)) (value_of r a is) ∙ ap (λ (k : ℕ). answer_of k (f a)) (sym (good_of r a is))

  pub err-number : {e : Refusal} → Known r → Err e ≡ said.answered r a → (value : ℕ) → answer_of (said.number_of e) 0 ≡ answer_of r value
  err-number known is value = ap (λ (k : ℕ). answer_of k 0) (told_number r a known is) ∙ answered r 0 value (λ fine. absurd (broken_of r a is fine))

-- an interval is the least one as a number
interval-answered : (refusal least : ℕ) → refusal ≡ 0 → interval_from (least_told (least_of refusal least)) ≡ answer_of refusal least
unfolding interval_from least_told least_of
interval-answered refusal zero fine = simp fine
interval-answered refusal (suc n) fine = simp (fine, some n)

-- the least interval of a sheet that is read
pub interval-is : (s : List ℕ) {table : Table} → Ok table ≡ said.answered (read_answer s).refusal (read_answer s).table → {interval : Result (Option ℕ) Refusal} → interval ≡ least_told (interval_answer table) → interval_from interval ≡ interval_number s
unfolding interval_answer interval_number
interval-is s {table} read given =
    ap interval_from given ∙ interval-answered (table_refusal table) (least_interval table) (ap table_refusal (table-read s read) ∙ good-table-read s read)
    ∙ ap (λ (t : Table). answer_of (table_refusal t) (least_interval t)) (table-read s read)
    ∙ ap (λ (r : ℕ). answer_of r (least_interval (table_of s))) (good-table-read s read ∙ sym (good-read s read))

-- what is asked of a sheet's bytes is refused with a number of the tables
pub timed-known : (rule : Rule) (s : List ℕ) (place : ℕ) → Known (timed_in rule s place).refusal
unfolding timed_in
timed-known rule s place = sheet-place-known rule s place

pub assessed-known : (rule : Rule) (s : List ℕ) → Known (assessed_in rule s).refusal
assessed-known rule s = subst Known (sym (assessed-refusal rule s)) (sheet-rule-known rule s)

-- the answers of a sheet that is asked for a place, or for its verdict, out of its bytes
module _ (s : List ℕ) (place : ℕ) where
  -- a good sheet asks nothing more of a place than that it is below the count
  place-refused : sheet_place_refusal Published s place ≡ place_refusal s place
  unfolding sheet_place_refusal place_refusal asked_refusal rule_refusal table_of
  place-refused = go (ℕ_discrete (sheet_refusal s) 0)
    where
      go : Dec (sheet_refusal s ≡ 0)
          → or_else (sheet_refusal s) (or_else (table_refusal (table_of s)) (cond (ltb place (table_of s).count) 0 12)) ≡ or_else (sheet_refusal s) (cond (ltb place (count_of s)) 0 12)
      go (yes good) = next-of _ good ∙ next-of _ (table-good s good) ∙ sym (next-of _ good)
      go (no broken) = first_of _ _ broken ∙ sym (first_of _ _ broken)

  module _ (timed : Timed) (given : timed ≡ timed_in Published s place) where
    pub place-asked : timed.refusal ≡ place_refusal s place
    unfolding timed_in
    place-asked = ap (λ (t : Timed). t.refusal) given ∙ place-refused

    pub entry-asked : place_refusal s place ≡ 0 → timed.entry ≡ entry_of (own_tasks (table_of s)) place
    unfolding timed_in entry_by time_by entry_of
    entry-asked fine = ap (λ (t : Timed). t.entry) given ∙ simp (place-refused ∙ fine)

    pub response-is : answer_of timed.refusal (time_of timed.entry.outcome) ≡ response_number s place
    unfolding response_number
    response-is =
        ap (λ (r : ℕ). answer_of r (time_of timed.entry.outcome)) place-asked
        ∙ answered (place_refusal s place) _ _ (λ fine. ap (λ (x : Entry). time_of x.outcome) (entry-asked fine))

pub verdict-is : (s : List ℕ) (answer : Assessment) → answer ≡ assessed_in Published s → answer_of answer.refusal (cond answer.passes 1 0) ≡ verdict_number s
unfolding assessed_in own_assessment_by choice_assessment_by assessed rule_refusal meets verdict_number
verdict-is s answer given = ap (λ (a : Assessment). answer_of a.refusal (cond a.passes 1 0)) given ∙ go (ℕ_discrete (sheet_refusal s) 0)
  where
    go : Dec (sheet_refusal s ≡ 0) → answer_of (assessed_in Published s).refusal (cond (assessed_in Published s).passes 1 0) ≡ verdict_number s
    go (yes good) = simp (good, own-judged Published (table_of s), table-good s good)
    go (no broken) = simp (ne_eqb (sheet_refusal s) 0 broken) (answered (sheet_refusal s) _ _ (λ none. absurd (broken none)))
