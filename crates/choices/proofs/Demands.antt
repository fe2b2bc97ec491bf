-- The demands on the walk and the list in the request's words, about the definitions.
-- What stands beside a refusal is in Refused.antt. Assumes nothing.
use Prim.Native.Nat.{ℕ, zero, suc, ◌*◌, ◌≤◌, ◌<◌}
use mathlib.Core.Path.{◌≡◌, refl, sym, ap, ◌∙◌, subst}
use mathlib.Core.Bool.{Bool, true, false, cond, ◌||◌, or-true, true≢false}
use mathlib.Core.List.Memᴰ.{cases_cons}
use mathlib.Core.List.Memᴰ.{head as here}
use mathlib.Core.List.Memᴰ.{not-nil}
use mathlib.Core.List.{List, [], ◌∷◌, Memᴰ as In}
use mathlib.Core.Logic.{◌↔◌, ◌⊎◌, inl, inr, ⊎_elim}
use native.Mathlib.Omega.{arith}
use borrow.Author.Tests.{eq-eqb, eqb-true}
use lib.Dec.{eqb}
use lib.ListN.{length, get_or, take, drop}
use lib.Seq.{drop-cons, drop-length}
use Rattle.places.proofs.Tells.{tests, true-both, both_true}
use Rattle.sheet.specs.declared.Table.{Table}
use Rattle.sheet.specs.Layout.{record_at}
use Rattle.sheet.specs.Rules.{taken, table_refusal}
use Rattle.sheet.proofs.Order.{table-in-order}
use Rattle.sheet.proofs.Cases.{good-table, good-at}
use Rattle.sheet.proofs.Refused.{given-unless}
use Rattle.analysis.specs.Common.Tasks.{Tasks, tasks_of, own_choice}
use Rattle.analysis.specs.Published.Response.{response_time, late, passes}
use Rattle.analysis.specs.Published.Lowest.{Lowest, lowest_late}
use Rattle.analysis.specs.declared.Rule.TheVariants.{Published}
use Rattle.analysis.specs.ByRule.{meets, rule_refusal}
use Rattle.analysis.specs.Common.Columns.{priorities_of}
use Rattle.analysis.specs.Common.Allowed.{all_allowed}
use Rattle.analysis.proofs.Laws.Common.Choice.{Allowed, allowed-exactly, own-allowed}
use Rattle.analysis.proofs.Laws.Published.Lowest.{response-lowest, lowest-late-same, lowest-tested}
use Rattle.choices.specs.declared.Walk.{Walk}
use Rattle.choices.specs.Told.Arrival.{Found, End}
use Rattle.choices.specs.Told.{Stepped}
use Rattle.choices.specs.Choices.{choices_of, chosen, passing_of}
use Rattle.choices.specs.Order.{before, all_zero, after_of}
use Rattle.choices.specs.Answers.{start_walk, walk_refusal, arrive_at, step_from, step_answer, entry_bytes, leaves_from, list_refusal, list_answer, list_leaves}
use Rattle.choices.proofs.Sifted.{sift-none, sift-fewer}
use Rattle.choices.proofs.Members.{sift-members, choices-sound, choices-complete}
use Rattle.choices.proofs.Advancing.{test_with, starts, good_start}
use Rattle.choices.specs.Stepping.{factorial}
use Rattle.choices.proofs.Counted.{filled-factorial}
use Rattle.choices.proofs.Ordered.{before-irreflexive, before-asymmetric, ascending-places}
use Rattle.choices.proofs.Listed.{from_start, passing-ascending, passing-eight, start-allowed, next-listed, room-empty}
use Rattle.choices.proofs.Hopeless.{late-chosen}
use Rattle.choices.proofs.Entries.{entry-at}

-- "eight zero entries"
abbrev pub Zero : List ℕ → Type 0
Zero start = (place : ℕ) → get_or start place 0 ≡ 0

-- the definition's test says just that
zero-entries : (start : List ℕ) → all_zero start ≡ true → Zero start
unfolding all_zero
zero-entries [] e place = refl
zero-entries (q ∷ qs) e zero = eqb-true q 0 (both_true (eqb q 0) (all_zero qs) e).0
zero-entries (q ∷ qs) e (suc place) = zero-entries qs (both_true (eqb q 0) (all_zero qs) e).1 place

entries-zero : (start : List ℕ) → Zero start → all_zero start ≡ true
unfolding all_zero
entries-zero [] each = refl
entries-zero (q ∷ qs) each = true-both _ _ (eq-eqb q 0 (each 0)) (entries-zero qs (λ place. each (suc place)))

-- "it may start before the first choice, shown by eight zero entries, or after any allowed one"
abbrev pub MayStart : Table → List ℕ → Type 0
MayStart t start = Zero start ⊎ Allowed t start

module _ (t : Table) (good : table_refusal t ≡ 0) (start : List ℕ) (eight : length start ≡ 8) where
  -- the definition's test says just that
  starts-exactly : (starts t start ≡ true) ↔ MayStart t start
  starts-exactly = (
    λ e. go (all_zero start) refl e,
    ⊎_elim (λ z. simp (entries-zero start z)) (λ w. rw ((allowed-exactly t good start eight).1 w) (or-true (all_zero start))),
  )
    where
      go : (b : Bool) → all_zero start ≡ b → (b || all_allowed (priorities_of t) start) ≡ true → MayStart t start
      go true e said = inl (zero-entries start e)
      go false e said = inr ((allowed-exactly t good start eight).0 said)

  -- for a good table a start is not refused exactly if it is one of these
  pub start-exactly : (walk_refusal t start ≡ 0) ↔ MayStart t start
  start-exactly =
      let known = good_start t start in
      (λ e. starts-exactly.0 (known.0 e).1, λ may. known.1 (good, starts-exactly.1 may))

  -- and 13 is given exactly if it "is not all zero, and has an entry outside 1 to that record's p or a nonzero entry past the count"
  pub start-13 : (walk_refusal t start ≡ 13) ↔ ((Zero start → ⊥) × (Allowed t start → ⊥))
  unfolding walk_refusal
  start-13 =
      let last = given-unless (table_refusal t) 13 (table-in-order t).range (omega arith) (tests (starts t start)) in (
        λ e. (λ z. (last.0 e).1 (starts-exactly.1 (inl z)), λ w. (last.0 e).1 (starts-exactly.1 (inr w))),
        λ neither. last.1 (good, λ e. ⊎_elim neither.0 neither.1 (starts-exactly.0 e)),
      )

-- "each listed choice is allowed and passes; each allowed choice that passes is listed", where passing is any test
pub listed-exactly : (test : Tasks → Bool) (t : Table) → table_refusal t ≡ 0 → (c : List ℕ) → In c (chosen test t) ↔ ((length c ≡ 8) × Allowed t c × (test_with test t c ≡ true))
unfolding chosen
listed-exactly test t good c =
    let member = sift-members (test_with test t) (choices_of (priorities_of t)) in (
      λ m.
          let eight = (passing-eight test t good m).0 in
          (eight, (allowed-exactly t good c eight).0 (choices-sound (priorities_of t) (member.0 m).0), (member.0 m).1),
      λ h. member.1 (choices-complete (priorities_of t) c ((allowed-exactly t good c h.0).1 h.1), h.2),
    )

-- "strictly ascending, so each stands once"
pub listed-ascending : (test : Tasks → Bool) (t : Table) (j k : ℕ) → j < k → k < length (chosen test t) → before (get_or (chosen test t) j []) (get_or (chosen test t) k []) ≡ true
listed-ascending test t = ascending-places (passing-ascending test t)

-- so no two places have the same
pub listed-once : (test : Tasks → Bool) (t : Table) (j k : ℕ) → j < k → k < length (chosen test t) → get_or (chosen test t) j [] ≡ get_or (chosen test t) k [] → ⊥
listed-once test t j k h below same =
    true≢false (sym (listed-ascending test t j k h below) ∙ ap (before (get_or (chosen test t) j [])) (sym same) ∙ before-irreflexive (get_or (chosen test t) j []))

-- "a good table of n records has n! choices"
pub choices-count : (t : Table) → table_refusal t ≡ 0 → length (choices_of (priorities_of t)) ≡ factorial t.count
unfolding priorities_of taken
choices-count t good =
    let table = good-table t good in
    let each = good-at t.count (record_at t.records) table.records in
    filled-factorial (λ k. (record_at t.records k).priority) t.count table.count.1 (λ k h. (each k h).priority) (λ k h. (each k h).fresh)

-- so no list is longer than that
pub listed-few : (test : Tasks → Bool) (t : Table) → table_refusal t ≡ 0 → length (chosen test t) ≤ factorial t.count
unfolding chosen
listed-few test t good = omega (arith, sift-fewer (test_with test t) (choices_of (priorities_of t)), choices-count t good)

-- c is the first listed choice after a start: it is listed, comes after the start, and every other listed one after the start comes after it
pub record FirstAfter (test : Tasks → Bool) (t : Table) (start c : List ℕ) : Type 0 where
  pub is-listed : In c (chosen test t)
  pub comes-after : before start c ≡ true
  pub others-later : (d : List ℕ) → In d (chosen test t) → before start d ≡ true → (d ≡ c) ⊎ (before c d ≡ true)

-- there is only one
one-first : (test : Tasks → Bool) (t : Table) (start c d : List ℕ) → FirstAfter test t start c → FirstAfter test t start d → c ≡ d
one-first test t start c d first other =
    ⊎_elim sym
    (λ after. ⊎_elim (λ e. e) (λ back. absurd (true≢false (sym back ∙ before-asymmetric c d after))) (other.others-later c first.is-listed first.comes-after))
    (first.others-later d other.is-listed other.comes-after)

-- the walk after so many steps from the start
unfoldable pub walk_after : (Walk → Stepped) → ℕ → Walk
walk_after step zero = start_walk
walk_after step (suc k) = (step (walk_after step k)).walk

-- A walk through the choices of a good table for which a test meets, where a step is not refused from the start or from any allowed choice
module _ (test : Tasks → Bool) (t : Table) (good : table_refusal t ≡ 0) (refuses : List ℕ → ℕ) (may-go : (start : List ℕ) → starts t start ≡ true → refuses start ≡ 0) where
  -- a step of it
  abbrev pub step_of : Walk → Stepped
  step_of w = step_from (refuses w.entries) (chosen test t) w

  -- goes to the first of the choices after the walk
  step_is : (w : Walk) → starts t w.entries ≡ true → step_of w ≡ arrive_at w (after_of w.entries (chosen test t))
  unfolding step_from
  step_is w start = simp (may-go w.entries start)

  module _ (w : Walk) (eight : length w.entries ≡ 8) (may : MayStart t w.entries) where
    stepped : step_of w ≡ arrive_at w (after_of w.entries (chosen test t))
    stepped = step_is w ((starts-exactly t good w.entries eight).1 may)

    -- "the step after any allowed choice gives the first listed one after it, and says end exactly if none is left": what it gives is the first
    pub first-given : (c : List ℕ) → step_of w ≡ record { walk = record { entries = c }; arrival = Found } → FirstAfter test t w.entries c
    unfolding arrive_at after_of
    first-given c e = go (after_of w.entries (chosen test t)) refl (sym stepped ∙ e)
      where
        go : (l : List (List ℕ)) → after_of w.entries (chosen test t) ≡ l → arrive_at w l ≡ record { walk = record { entries = c }; arrival = Found } → FirstAfter test t w.entries c
        go [] same said = absurd (let stop = ap (λ (r : Stepped). r.arrival) said in let z : ◌≡◌ {A = ℕ} 0 1 = cc in omega arith)
        go (d ∷ rest) same said =
            let found : after_of w.entries (chosen test t) ≡ c ∷ rest = same ∙ ap (λ (x : List ℕ). x ∷ rest) (ap (λ (r : Stepped). r.walk.entries) said) in
            let member = sift-members (before w.entries) (chosen test t) in
            let first = member.0 (subst (In c) (sym found) (here refl)) in
            let next = next-listed test t good w.entries c rest found in
            record {
              is-listed = first.0;
              comes-after = first.1;
              others-later = λ x m after. ⊎_elim inl (λ later. inr ((sift-members (before c) (chosen test t)).0 (subst (In x) (sym next.after) later)).1) (cases_cons (subst (In x) found ((sift-members (before w.entries) (chosen test t)).1 (m, after))));
            }

    -- and where there is one, the step gives it
    pub gives-first : (c : List ℕ) → FirstAfter test t w.entries c → step_of w ≡ record { walk = record { entries = c }; arrival = Found }
    unfolding arrive_at after_of
    gives-first c first = go (after_of w.entries (chosen test t)) refl
      where
        go : (l : List (List ℕ)) → after_of w.entries (chosen test t) ≡ l → step_of w ≡ record { walk = record { entries = c }; arrival = Found }
        go [] same = absurd (not-nil (subst (In c) same ((sift-members (before w.entries) (chosen test t)).1 (first.is-listed, first.comes-after))))
        go (d ∷ rest) same =
            let gave = stepped ∙ ap (arrive_at w) same in
            gave ∙ ap (λ (x : List ℕ). record { walk = record { entries = x }; arrival = Found }) (one-first test t w.entries d c (first-given d gave) first)

    -- it says end exactly if none is left
    pub end-exactly : (step_of w ≡ record { walk = w; arrival = End }) ↔ ((c : List ℕ) → In c (chosen test t) → before w.entries c ≡ false)
    unfolding arrive_at after_of
    end-exactly = (
      λ e. none-later (after_of w.entries (chosen test t)) refl (sym stepped ∙ e),
      λ none. stepped ∙ ap (arrive_at w) (sift-none (before w.entries) (chosen test t) none),
    )
      where
        none-later : (l : List (List ℕ)) → after_of w.entries (chosen test t) ≡ l → arrive_at w l ≡ record { walk = w; arrival = End } → (c : List ℕ) → In c (chosen test t) → before w.entries c ≡ false
        none-later [] same said c m = go (before w.entries c) refl
          where
            go : (b : Bool) → before w.entries c ≡ b → b ≡ false
            go true h = absurd (not-nil (subst (In c) same ((sift-members (before w.entries) (chosen test t)).1 (m, h))))
            go false h = refl
        none-later (d ∷ rest) same said c m = absurd (let stop = ap (λ (r : Stepped). r.arrival) said in let z : ◌≡◌ {A = ℕ} 0 1 = cc in omega arith)

  -- "walking from the start until the end visits exactly the list": step k comes to the listed choice at place k, and the step after the last says end
  came : (k : ℕ) → starts t (walk_after step_of k).entries ≡ true → k < length (chosen test t) → after_of (walk_after step_of k).entries (chosen test t) ≡ get_or (chosen test t) k [] ∷ drop (suc k) (chosen test t)
      → step_of (walk_after step_of k) ≡ record { walk = record { entries = get_or (chosen test t) k [] }; arrival = Found }
  unfolding arrive_at
  came k start h found = step_is (walk_after step_of k) start ∙ ap (arrive_at (walk_after step_of k)) found

  stands : (k : ℕ) → k ≤ length (chosen test t) → (starts t (walk_after step_of k).entries ≡ true) × (after_of (walk_after step_of k).entries (chosen test t) ≡ drop k (chosen test t))
  unfolding walk_after
  stands zero h = (start-allowed (priorities_of t), from_start test t good)
  stands (suc k) h =
      let at = stands k (omega arith) in
      let found = at.1 ∙ drop-cons (chosen test t) k [] h in
      let next = next-listed test t good (walk_after step_of k).entries _ _ found in
      let here-now = ap (λ (r : Stepped). r.walk.entries) (came k at.0 h found) in
      subst (λ (c : List ℕ). (starts t c ≡ true) × (after_of c (chosen test t) ≡ drop (suc k) (chosen test t))) (sym here-now) (next.going_on, next.after)

  -- each step but the last comes to the choice at its place
  pub visits-each : (k : ℕ) → k < length (chosen test t) → step_of (walk_after step_of k) ≡ record { walk = record { entries = get_or (chosen test t) k [] }; arrival = Found }
  visits-each k h =
      let at = stands k (omega arith) in
      came k at.0 h (at.1 ∙ drop-cons (chosen test t) k [] h)

  -- and the last says end
  pub ends_last : step_of (walk_after step_of (length (chosen test t))) ≡ record { walk = walk_after step_of (length (chosen test t)); arrival = End }
  unfolding arrive_at
  ends_last =
      let at = stands (length (chosen test t)) (omega arith) in
      step_is (walk_after step_of (length (chosen test t))) at.0 ∙ ap (arrive_at (walk_after step_of (length (chosen test t)))) (at.1 ∙ drop-length (chosen test t))

-- The same of the passing choices, about the answers of `step`
module _ (t : Table) (good : table_refusal t ≡ 0) where
  -- a step is not refused from the start or from any allowed choice
  may-pass : (start : List ℕ) → starts t start ≡ true → walk_refusal t start ≡ 0
  may-pass start fine = (good_start t start).1 (good, fine)

  module _ (w : Walk) (eight : length w.entries ≡ 8) (may : MayStart t w.entries) where
    pub step-first : (c : List ℕ) → step_answer t w ≡ record { walk = record { entries = c }; arrival = Found } → FirstAfter passes t w.entries c
    unfolding step_answer passing_of
    step-first = first-given passes t good (walk_refusal t) may-pass w eight may

    pub step_gives : (c : List ℕ) → FirstAfter passes t w.entries c → step_answer t w ≡ record { walk = record { entries = c }; arrival = Found }
    unfolding step_answer passing_of
    step_gives = gives-first passes t good (walk_refusal t) may-pass w eight may

    pub step_end : (step_answer t w ≡ record { walk = w; arrival = End }) ↔ ((c : List ℕ) → In c (passing_of t) → before w.entries c ≡ false)
    unfolding step_answer passing_of
    step_end = end-exactly passes t good (walk_refusal t) may-pass w eight may

  pub walk-visits : (k : ℕ) → k < length (passing_of t) → step_answer t (walk_after (step_answer t) k) ≡ record { walk = record { entries = get_or (passing_of t) k [] }; arrival = Found }
  unfolding step_answer passing_of
  walk-visits = visits-each passes t good (walk_refusal t) may-pass

  pub walk_ends : step_answer t (walk_after (step_answer t) (length (passing_of t))) ≡ record { walk = walk_after (step_answer t) (length (passing_of t)); arrival = End }
  unfolding step_answer passing_of
  walk_ends = ends_last passes t good (walk_refusal t) may-pass

-- "the list's bytes are those entries in that order"
pub list_put : (refusal : ℕ) (list : List (List ℕ)) (out : List ℕ) → refusal ≡ 0 → (k : ℕ) → k < length list → take 4 (drop (4 * k) (leaves_from refusal list out)) ≡ entry_bytes (get_or list k [])
unfolding leaves_from
list_put refusal list out good k below = simp good (entry-at list (drop (4 * length list) out) k below)

pub list-bytes : (t : Table) (out : List ℕ) → list_refusal t out ≡ 0 → (k : ℕ) → k < length (passing_of t) → take 4 (drop (4 * k) (list_leaves t out)) ≡ entry_bytes (get_or (passing_of t) k [])
unfolding list_leaves
list-bytes t out = list_put (list_refusal t out) (passing_of t) out

-- where the lowest task is late the list is empty
late-none : (t : Table) → table_refusal t ≡ 0 → lowest_late t ≡ true → passing_of t ≡ []
unfolding passing_of meets rule_refusal
late-none t good = late-chosen t Published good

-- document 02, request 8, about the lowest task of a table. Every good table has one and only one: `lowest-there` and `lowest-once` of analysis.
module _ (t : Table) (place : ℕ) (at : Lowest t place) where
  -- "The lowest task's response is the same under every choice."
  pub lowest-response : (c d : List ℕ) → Allowed t c → Allowed t d → response_time (tasks_of t t.interval c) place ≡ response_time (tasks_of t t.interval d) place
  unfolding response_time
  lowest-response c d first second = response-lowest t t.interval c d first.each second.each 65535 place at.0 at.1

  module _ (good : table_refusal t ≡ 0) (c : List ℕ) (allowed : Allowed t c) (is-late : late (tasks_of t t.interval c) place ≡ true) where
    -- "When it is late the list is empty", under whichever choice it was asked
    pub late-empty : passing_of t ≡ []
    late-empty = late-none t good (lowest-tested t good place at ∙ lowest-late-same t place at (own_choice t) c (own-allowed t good).each allowed.each ∙ is-late)

    -- so that the list has no entries whatever room there is, and leaves the output as it was: never 11
    pub late-list : (out : List ℕ) → (list_answer t out ≡ record { refusal = 0; entries = 0 }) × (list_leaves t out ≡ out)
    unfolding list_answer list_leaves list_refusal
    late-list out = room-empty (table_refusal t) (passing_of t) out good late-empty

    -- and each step that is not refused says end; what may start is as before, and 13 comes first (`start-13`)
    pub late-step : (w : Walk) → length w.entries ≡ 8 → MayStart t w.entries → step_answer t w ≡ record { walk = w; arrival = End }
    late-step w eight may = (step_end t good w eight may).1 (λ choice member. absurd (not-nil (subst (In choice) late-empty member)))

-- "the desk should say so from that one response": the list where the lowest task is asked first
unfoldable pub asked_first : Table → List (List ℕ)
asked_first t = cond (lowest_late t) [] (passing_of t)

-- "Listing and walking answer exactly as before": it is the list
pub list-as-before : (t : Table) → table_refusal t ≡ 0 → asked_first t ≡ passing_of t
unfolding asked_first
list-as-before t good = go (lowest_late t) refl (late-none t good)
  where
    go : (b : Bool) → lowest_late t ≡ b → (lowest_late t ≡ true → passing_of t ≡ []) → cond b [] (passing_of t) ≡ passing_of t
    go true is none = sym (none is)
    go false is none = refl
