-- What each function says, in the header's words and document 01's: minus the refusal's number, beside an output that stays as it was, or the value;
-- and when 11 and 13 are given. Assumes nothing.
use Prim.Native.Nat.{ℕ, ◌+◌, ◌*◌, ◌<◌}
use mathlib.Core.Path.{◌≡◌, refl, ap, ◌∙◌}
use mathlib.Core.Bool.{Bool, true, false, cond}
use mathlib.Core.List.{List, [], ◌∷◌, ◌++◌}
use mathlib.Core.Logic.{◌⊎◌, ◌↔◌, ⊎_elim}
use native.Mathlib.Decide.{ℕ_discrete}
use native.Mathlib.Numerals.{one-add}
use native.Mathlib.Omega.{arith}
use borrow.Author.Tests.{eq-eqb, ne_eqb}
use lib.Dec.{ltb}
use lib.IntN.{ℤ, pos, neg_ℤ}
use lib.ListN.{length, get_or, set, take, drop}
use Rattle.places.proofs.Tells.{ltb-tells, eqb_tells, or-tells}
use Rattle.places.proofs.Joined.{run_at}
use Rattle.places.proofs.Refusals.{next-of}
use Rattle.sheet.specs.Layout.{header_size, size_of, count_of, start_of, is_whole, edition_for, table_size, table_of}
use Rattle.sheet.specs.Rules.{sheet_refusal}
use Rattle.sheet.specs.Answers.{write_refusal, rewrite_refusal, rewrite_leaves, place_refusal}
use Rattle.sheet.proofs.Order.{sheet-in-order}
use Rattle.sheet.proofs.Demands.{table-good}
use Rattle.sheet.proofs.Refused.{tried-last, given-if, write-refused-leaves}
use Rattle.analysis.specs.declared.Slack.TheVariants.{Figure, NoFigure}
use Rattle.analysis.specs.Published.Response.{response_time, late, passes}
use Rattle.analysis.specs.Common.Entries.{outcome_of, entry_from, own_tasks}
use Rattle.analysis.specs.Published.Answers.{entry_of, least_interval}
use Rattle.analysis.proofs.Laws.Common.Choice.{Allowed}
use Rattle.choices.specs.Choices.{passing_of}
use Rattle.choices.specs.Order.{after_of}
use Rattle.choices.specs.Answers.{walk_refusal, list_refusal}
use Rattle.choices.proofs.Demands.{Zero, start-13}
use Rattle.choices.proofs.Refused.{list-11, list-refused-leaves}
use Rattle.mend.specs.declared.Change.{Change}
use Rattle.mend.specs.Mended.{mended}
use Rattle.mend.specs.Changes.{no_change, changes_of}
use Rattle.fidhaqooban.specs.Numbers.{answer_of, table_from, given_table, time_of, figures_of, figure_in, entries_of, choice_of, count_numbers, change_numbers, changes_from, changes_numbers}
use Rattle.replay.specs.Ticks.Machines.{machine_of}
use Rattle.replay.specs.Logs.Shown.{matching}
use Rattle.replay.specs.Logs.Answers.{replay_answer, check_refusal}
use Rattle.fidhaqooban.specs.Answers.{write_shared_number, write_shared_left, write_number, rewrite_number, rewrite_left, record_number, response_number, slack_refusal, slack_number, slack_left, verdict_number, interval_number, first_number, next_refusal, next_number, listing_refusal, list_number, list_left, replayed_refusal, replay_number, replay_left, check_number, mending_refusal, mend_number, mend_left, mend_listed, first_out, cores_refusal, cores_number, release_number}
use Rattle.locks.specs.declared.Starts.{Starts}
use Rattle.locks.specs.declared.Resource.{Resource}
use Rattle.locks.specs.declared.Request.{Request}
use Rattle.locks.specs.declared.Granting.{Granting}
use Rattle.locks.specs.Rules.{grant_refusal}
use Rattle.locks.specs.Answers.{grant_answer}
use Rattle.locks.proofs.Order.{grant-in-order}
use Rattle.release.specs.Answers.{decision}
use Rattle.fidhaqooban.specs.Locking.{lock_refusal, lock_number, lock_left}
use Rattle.fidhaqooban.proofs.Lent.{last-11}

-- asking for a place is never refused with 11
place-not-11 : (sheet : List ℕ) (place : ℕ) → place_refusal sheet place ≡ 11 → ⊥
unfolding place_refusal
place-not-11 sheet place e = go (ltb place (count_of sheet)) ((tried-last (sheet_refusal sheet) 11 (sheet-in-order sheet).range (omega arith) _).0 e).1
  where
    go : (b : Bool) → ◌≡◌ {A = ℕ} (cond b 0 12) 11 → ⊥
    go true h = omega arith
    go false h = omega arith

-- "A negative answer is minus the refusal number": what an answer is, refused or not
pub record Said (refusal value : ℕ) (answer : ℤ) : Type 0 where
  pub refused : (refusal ≡ 0 → ⊥) → answer ≡ neg_ℤ (pos refusal)
  pub given : refusal ≡ 0 → answer ≡ pos value

-- the definition of an answer says so
said : (refusal value : ℕ) → Said refusal value (answer_of refusal value)
unfolding answer_of
said refusal value = record { refused = λ broken. simp (ne_eqb refusal 0 broken); given = λ fine. simp (eq-eqb refusal 0 fine) }

-- `fq_write_shared`, and with Q = S = 1 `fq_write`
module _ (count interval round share : ℕ) (numbers out : List ℕ) where
  -- "bytes written"
  pub write-said : Said (write_refusal (given_table count interval round share numbers) out) (header_size (edition_for round share) + 9 * count) (write_shared_number count interval round share numbers out)
  unfolding write_shared_number given_table table_from table_size size_of
  write-said = said _ _

  -- refused, the output stays as it was
  pub write_kept : (write_refusal (given_table count interval round share numbers) out ≡ 0 → ⊥) → write_shared_left count interval round share numbers out ≡ out
  unfolding write_shared_left
  write_kept broken = (write-refused-leaves (given_table count interval round share numbers) out broken).2

-- the whole processor takes 3 + 9 × count bytes
pub write-whole : (count interval : ℕ) (numbers out : List ℕ) → Said (write_refusal (given_table count interval 1 1 numbers) out) (3 + 9 * count) (write_number count interval numbers out)
unfolding write_number edition_for is_whole
write-whole count interval numbers out = write-said count interval 1 1 numbers out

-- `fq_rewrite`
module _ (sheet out : List ℕ) where
  -- "read, then write: bytes written"
  pub rewrite-said : Said (rewrite_refusal sheet out) (length sheet) (rewrite_number sheet out)
  unfolding rewrite_number
  rewrite-said = said _ (length sheet)

  -- 11 exactly if the sheet is good and the output shorter than it
  pub rewrite-11 : (rewrite_refusal sheet out ≡ 11) ↔ ((sheet_refusal sheet ≡ 0) × (length out < length sheet))
  unfolding rewrite_refusal
  rewrite-11 = given-if (sheet_refusal sheet) 11 (sheet-in-order sheet).range (omega arith) (ltb-tells (length out) (length sheet))

  -- refused, the output stays as it was; else it begins with the sheet, and the bytes after those are not touched
  pub rewrite-left : ((rewrite_refusal sheet out ≡ 0 → ⊥) → rewrite_left sheet out ≡ out) × (rewrite_refusal sheet out ≡ 0 → rewrite_left sheet out ≡ sheet ++ drop (length sheet) out)
  unfolding rewrite_left rewrite_leaves
  rewrite-left = (λ broken. simp (ne_eqb (rewrite_refusal sheet out) 0 broken), λ fine. simp (eq-eqb (rewrite_refusal sheet out) 0 fine))

module _ (sheet : List ℕ) where
  -- `fq_record`: "where the record's nine bytes start"
  pub record-said : (place : ℕ) → Said (place_refusal sheet place) (start_of sheet + 9 * place) (record_number sheet place)
  unfolding record_number
  record-said place = said _ _

  -- `fq_response`: "the time; 0 late; -12 for the place"
  pub response-said : (place : ℕ)
      → (late (own_tasks (table_of sheet)) place ≡ true → Said (place_refusal sheet place) 0 (response_number sheet place))
      × (late (own_tasks (table_of sheet)) place ≡ false → Said (place_refusal sheet place) (response_time (own_tasks (table_of sheet)) place) (response_number sheet place))
  unfolding response_number entry_of entry_from outcome_of time_of
  response-said place = (λ is. simp is (said _ 0), λ is. simp is (said _ _))

  -- `fq_slack`: "1 with the slack in `out[0]`, 0 where there is no figure"; 11 exactly if the place is not refused and the output is empty; refused, and without a figure, the output stays as it was
  module _ (place : ℕ) (out : List ℤ) where
    pub slack-11 : (slack_refusal sheet place out ≡ 11) ↔ ((place_refusal sheet place ≡ 0) × (length out ≡ 0))
    unfolding slack_refusal
    slack-11 = last-11 (place_refusal sheet place) (place-not-11 sheet place) (eqb_tells (length out) 0)

    pub slack-figure : (ticks : ℤ) → slack_refusal sheet place out ≡ 0 → (entry_of (own_tasks (table_of sheet)) place).slack ≡ Figure ticks → (slack_number sheet place out ≡ pos 1) × (slack_left sheet place out ≡ set out 0 ticks)
    unfolding slack_number slack_left figures_of figure_in
    slack-figure ticks fine is = simp (fine, is) ((said 0 1).given refl, refl)

    pub slack-none : slack_refusal sheet place out ≡ 0 → (entry_of (own_tasks (table_of sheet)) place).slack ≡ NoFigure → (slack_number sheet place out ≡ pos 0) × (slack_left sheet place out ≡ out)
    unfolding slack_number slack_left figures_of figure_in
    slack-none fine is = simp (fine, is) ((said 0 0).given refl, refl)

    pub slack-refused : (slack_refusal sheet place out ≡ 0 → ⊥) → (slack_number sheet place out ≡ neg_ℤ (pos (slack_refusal sheet place out))) × (slack_left sheet place out ≡ out)
    unfolding slack_number slack_left
    slack-refused broken = ((said _ _).refused broken, simp (ne_eqb _ 0 broken))

  -- `fq_verdict`: "1 passes, 0 does not"
  pub verdict-said : (passes (own_tasks (table_of sheet)) ≡ true → Said (sheet_refusal sheet) 1 (verdict_number sheet))
      × (passes (own_tasks (table_of sheet)) ≡ false → Said (sheet_refusal sheet) 0 (verdict_number sheet))
  unfolding verdict_number
  verdict-said = (λ yes-it. simp yes-it (said _ _), λ no-it. simp no-it (said _ _))

  -- `fq_least_interval`: "the interval; 0 none"
  pub interval-said : Said (sheet_refusal sheet) (least_interval (table_of sheet)) (interval_number sheet)
  unfolding interval_number
  interval-said = said _ _

-- a number's entries are eight
length-entries : (choice : ℕ) → length (entries_of choice) ≡ 8
unfolding entries_of
length-entries choice = refl

-- `fq_next`
module _ (sheet : List ℕ) (after : ℕ) where
  -- "the next passing choice"
  pub next-said : (choice : List ℕ) (later : List (List ℕ)) → after_of (entries_of after) (passing_of (table_of sheet)) ≡ choice ∷ later
      → Said (next_refusal sheet after) (choice_of choice) (next_number sheet after)
  unfolding next_number first_number
  next-said choice later first = rw first (said _ _)

  -- "0 the end"
  pub next-end : after_of (entries_of after) (passing_of (table_of sheet)) ≡ [] → Said (next_refusal sheet after) 0 (next_number sheet after)
  unfolding next_number first_number
  next-end none = rw none (said _ _)

  -- the walk refuses the choice of a good sheet exactly if it is not all zero and not allowed
  start : sheet_refusal sheet ≡ 0 → (walk_refusal (table_of sheet) (entries_of after) ≡ 13) ↔ ((Zero (entries_of after) → ⊥) × (Allowed (table_of sheet) (entries_of after) → ⊥))
  start fine = start-13 (table_of sheet) (table-good sheet fine) (entries_of after) (length-entries after)

  -- 13 exactly if the sheet is good and the choice to go on after is neither
  pub next-13 : (next_refusal sheet after ≡ 13) ↔ ((sheet_refusal sheet ≡ 0) × (Zero (entries_of after) → ⊥) × (Allowed (table_of sheet) (entries_of after) → ⊥))
  unfolding next_refusal
  next-13 =
      let last = tried-last (sheet_refusal sheet) 13 (sheet-in-order sheet).range (omega arith) (walk_refusal (table_of sheet) (entries_of after)) in
      (λ e. let h = last.0 e in let neither = (start h.0).0 h.1 in (h.0, neither.0, neither.1), λ h. last.1 (h.0, (start h.0).1 (h.1, h.2)))

-- `fq_list`
module _ (sheet out : List ℕ) where
  -- "the number of entries"
  pub list-said : Said (listing_refusal sheet out) (length (passing_of (table_of sheet))) (list_number sheet out)
  unfolding list_number
  list-said = said _ _

  -- 11 exactly if the sheet is good and the output shorter than 4 bytes for each entry
  pub listing-11 : (listing_refusal sheet out ≡ 11) ↔ ((sheet_refusal sheet ≡ 0) × (length out < 4 * length (passing_of (table_of sheet))))
  unfolding listing_refusal
  listing-11 =
      let last = tried-last (sheet_refusal sheet) 11 (sheet-in-order sheet).range (omega arith) (list_refusal (table_of sheet) out) in
      let short = list-11 (table_of sheet) out in
      (λ e. let h = last.0 e in (h.0, (short.0 h.1).1), λ h. last.1 (h.0, short.1 (table-good sheet h.0, h.1)))

  -- refused, the output stays as it was
  pub list-kept : (listing_refusal sheet out ≡ 0 → ⊥) → list_left sheet out ≡ out
  unfolding list_left listing_refusal
  list-kept broken = go (ℕ_discrete (sheet_refusal sheet) 0)
    where
      go : Dec (sheet_refusal sheet ≡ 0) → list_left sheet out ≡ out
      go (yes fine) = simp (eq-eqb (sheet_refusal sheet) 0 fine) (list-refused-leaves (table_of sheet) out (λ e. broken (next-of _ fine ∙ e))).2
      go (no bad) = simp (ne_eqb (sheet_refusal sheet) 0 bad)

-- `fq_replay`: "0 with the counts"; refused, the output stays as it was. That 11 comes exactly where the replay is not refused and there is no room is `no_room` of Replayed.antt
module _ (sheet log out : List ℕ) where
  pub replay-said : Said (replayed_refusal sheet log out) 0 (replay_number sheet log out)
  unfolding replay_number
  replay-said = said _ 0

  pub replay-left : ((replayed_refusal sheet log out ≡ 0 → ⊥) → replay_left sheet log out ≡ out) × (replayed_refusal sheet log out ≡ 0 → replay_left sheet log out ≡ count_numbers (replay_answer sheet log).counts ++ drop 7 out)
  unfolding replay_left
  replay-left = (λ broken. simp (ne_eqb (replayed_refusal sheet log out) 0 broken), λ fine. simp (eq-eqb (replayed_refusal sheet log out) 0 fine))

-- `fq_check`: "how many ticks from the start show what the rules say, or minus the refusal". That it is all of them exactly if the record is accepted is `all-exactly` of Checked.antt
pub check-said : (sheet supplied : List ℕ) → Said (check_refusal sheet supplied) (matching (machine_of (table_of sheet)) supplied) (check_number sheet supplied)
unfolding check_number
check-said sheet supplied = said _ _

-- `fq_grant`: "1 granted, 0 not, minus the refusal"; the margin goes into the first place unless refused, and then the output stays as it was
module _ (granting : Granting) (margin : List ℤ) where
  pub lock-said : Said (lock_refusal granting margin) (cond granting.granted 1 0) (lock_number granting margin)
  unfolding lock_number
  lock-said = said _ _

  pub lock-left : ((lock_refusal granting margin ≡ 0 → ⊥) → lock_left granting margin ≡ margin) × (lock_refusal granting margin ≡ 0 → lock_left granting margin ≡ set margin 0 granting.margin)
  unfolding lock_left
  lock-left = (λ broken. simp (ne_eqb (lock_refusal granting margin) 0 broken), λ fine. simp (eq-eqb (lock_refusal granting margin) 0 fine))

-- "11 last, where margin_len is 0": exactly if the request is not refused and the output is empty
pub lock-11 : (starts : Starts) (resources : List Resource) (request : Request) (margin : List ℤ)
    → (lock_refusal (grant_answer starts resources request) margin ≡ 11) ↔ ((grant_refusal starts resources request ≡ 0) × (length margin ≡ 0))
unfolding lock_refusal grant_answer
lock-11 starts resources request margin =
    last-11 (grant_refusal starts resources request) (λ e. ⊎_elim (λ z. omega arith) (⊎_elim (λ h. omega arith) (λ h. omega arith)) (grant-in-order starts resources request).range) (eqb_tells (length margin) 0)

-- `fq_mend`
module _ (sheet out changes : List ℕ) where
  -- "how many bytes were written, or minus the refusal"
  pub mend-said : Said (mending_refusal sheet out changes) (length (mended sheet)) (mend_number sheet out changes)
  unfolding mend_number
  mend-said = said _ (length (mended sheet))

  -- 11 exactly if the mended sheet is good and either output "is shorter than what is to be written"
  pub mending-11 : (mending_refusal sheet out changes ≡ 11) ↔ ((sheet_refusal (mended sheet) ≡ 0) × ((length out < length (mended sheet)) ⊎ (length changes < 1 + 4 * length (changes_of sheet))))
  unfolding mending_refusal
  mending-11 =
      given-if (sheet_refusal (mended sheet)) 11 (sheet-in-order (mended sheet)).range (omega arith) (or-tells (ltb-tells (length out) (length (mended sheet))) (ltb-tells (length changes) (1 + 4 * length (changes_of sheet))))

  -- "and then neither is touched", nor by any other refusal
  pub mend-kept : (mending_refusal sheet out changes ≡ 0 → ⊥) → (mend_left sheet out changes ≡ out) × (mend_listed sheet out changes ≡ changes)
  unfolding mend_left mend_listed
  mend-kept broken = simp (ne_eqb (mending_refusal sheet out changes) 0 broken) (refl, refl)

  -- else the one begins with the mended sheet and the other with the changes' numbers, and what stands after those is not touched
  pub mend-put : mending_refusal sheet out changes ≡ 0
      → (mend_left sheet out changes ≡ mended sheet ++ drop (length (mended sheet)) out)
      × (mend_listed sheet out changes ≡ changes_numbers (changes_of sheet) ++ drop (1 + 4 * length (changes_of sheet)) changes)
  unfolding mend_left mend_listed
  mend-put fine = simp fine (refl, refl)

-- "`changes[0]` is how many changes there are, then four numbers each: place, field (0 length, 1 deadline, 2 fault priority), old, new"
pub four-numbers : (list : List Change) (k : ℕ) → k < length list
    → (get_or (changes_numbers list) 0 0 ≡ length list) × (take 4 (drop (1 + 4 * k) (changes_numbers list)) ≡ change_numbers (get_or list k no_change))
unfolding changes_from change_numbers
four-numbers list k below =
    (refl, ap (λ (n : ℕ). take 4 (drop n (changes_numbers list))) (one-add (4 * k)) ∙ run_at 4 (λ place. change_numbers (get_or list place no_change)) (λ place. refl) (length list) k below)

-- `fq_cores`: "0 where every record has a core", "the first record from 1 that fits none". When 11 comes and what is left in the output is in Settled.antt
pub cores-said : (sheet : List ℕ) (number : ℕ) (out : List ℕ) → Said (cores_refusal sheet number out) (first_out sheet number) (cores_number sheet number out)
unfolding cores_number
cores-said sheet number out = said _ _

-- `fq_release`: "1 load the candidate, 0 keep the one in use", or minus the refusal
pub release-said : (in_use candidate : List ℕ) (protected : ℕ)
    → ((decision in_use candidate protected).loads ≡ true → Said (decision in_use candidate protected).refusal 1 (release_number in_use candidate protected))
    × ((decision in_use candidate protected).loads ≡ false → Said (decision in_use candidate protected).refusal 0 (release_number in_use candidate protected))
unfolding release_number
release-said in_use candidate protected = (λ yes-it. simp yes-it (said _ _), λ no-it. simp no-it (said _ _))
