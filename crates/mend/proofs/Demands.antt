-- Request 11's demands in its own words, about the definitions that the promise cites. Assumes nothing.
use Prim.Native.Nat.{ℕ, ◌+◌, ◌*◌, ◌-◌, ◌≤◌, ◌<◌}
use mathlib.Core.Path.{◌≡◌, refl, sym, ap, subst, ◌∙◌}
use mathlib.Core.Bool.{cond}
use mathlib.Core.Logic.{◌↔◌, inl, inr}
use mathlib.Core.List.{List, [], ◌++◌, Memᴰ}
use native.Mathlib.Decide.{ℕ_discrete}
use native.Mathlib.Omega.{arith}
use borrow.Author.Tests.{lt-ltb, le-ltb}
use lib.Dec.{eqb, ltb}
use lib.ListN.{length, get_or, take, drop, replicate, get_or-replicate}
use lib.Seq.{take_at, get_or-append-add}
use Rattle.places.specs.Refusals.{or_else, InOrder}
use Rattle.places.proofs.Tells.{shown, ltb-tells}
use Rattle.places.proofs.Refusals.{next-of, none_of, first_of}
use Rattle.places.proofs.Order.{says_none, says_row, says-wider, says-joined, in_order}
use Rattle.sheet.specs.declared.Record.{Record}
use Rattle.sheet.specs.Layout.{count_of, edition_of, interval_of, round_of, share_of, start_of, size_of, part_of, sheet_record}
use Rattle.sheet.specs.Rules.{header_refusal, sheet_refusal}
use Rattle.sheet.specs.Broken.{Outside, sheet_rows}
use Rattle.sheet.proofs.Cases.{good-sheet, outside-within, outside-tells}
use Rattle.sheet.proofs.Order.{rule-positive, sheet-says, sheet-in-order}
use Rattle.sheet.proofs.Refused.{given-if, beside-refusal}
use Rattle.sheet.proofs.Spelled.{Bytes}
use Rattle.mend.specs.declared.Field.TheVariants.{Length}
use Rattle.mend.specs.declared.Change.{Change}
use Rattle.mend.specs.Mended.{mended_deadline, mended_fault, mended_record, mended}
use Rattle.mend.specs.Changes.{no_change, changes_of, held}
use Rattle.mend.specs.Answers.{mend_refusal, mend_answer, mend_leaves}
use Rattle.mend.specs.Applied.{list_of, apply_all, Difference, Rises}
use Rattle.mend.specs.Order.{mend_rows, MendNumber}
use Rattle.mend.proofs.Complete.{Complete}
use Rattle.mend.proofs.Noted.{all-count}
use Rattle.mend.proofs.Rebuilt.{count-alike, edition-alike, interval-alike, round-alike, share-alike}
use Rattle.mend.proofs.Cut.{incomplete-low, mended-same, mended-length, mended-byte, header-same, good-complete}
use Rattle.mend.proofs.Again.{good-mended, good-changes, mended-twice}
use Rattle.mend.proofs.Applying.{changes-applied}
use Rattle.mend.proofs.Exactly.{after, listed-exactly, changes-rise}
use Rattle.mend.proofs.Untouched.{Kept, record-untouched, header-untouched}

-- a change whose figures are all 0
abbrev zero_change : Change
zero_change = record { place = 0; field = Length; old = 0; new = 0 }

-- the changes that are held are the list
held-list : (l : List Change) → list_of (held l) ≡ l
unfolding list_of held
held-list l = take_at l _ (length l) refl

-- past their number stand zeros
held-past : (l : List Change) (place : ℕ) → length l ≤ place → place < 17 → (other : Change) → get_or (held l).list place other ≡ zero_change
unfolding held
held-past l place high below other =
    let whole : length l + (place - length l) ≡ place = omega arith in
    ap (λ (k : ℕ). get_or (held l).list k other) (sym whole) ∙ get_or-append-add l _ (place - length l) other ∙ get_or-replicate (17 - length l) (place - length l) no_change other (omega arith)

-- A record before and after: "bring a deadline above its period down to the period, and bring a fault priority above the task's own, or zero, to its own"; anything else stays
pub record Brought (before after : Record) : Type 0 where
  pub late : before.period < before.deadline → after.deadline ≡ before.period
  pub timely : before.deadline ≤ before.period → after.deadline ≡ before.deadline
  pub wrong : Outside before.fault_priority before.priority → after.fault_priority ≡ before.priority
  pub right : 1 ≤ before.fault_priority → before.fault_priority ≤ before.priority → after.fault_priority ≡ before.fault_priority
  pub cost : after.cost ≡ before.cost
  pub backup : after.backup ≡ before.backup
  pub period : after.period ≡ before.period
  pub priority : after.priority ≡ before.priority

brought : (r : Record) → Brought r (mended_record r)
unfolding mended_record mended_deadline mended_fault
brought r =
    record {
      late = λ above. simp (lt-ltb r.period r.deadline above);
      timely = λ within. simp (le-ltb r.period r.deadline within);
      wrong = λ bad. simp (shown (outside-tells r.fault_priority r.priority) bad);
      right = λ some within. simp (outside-within r.fault_priority r.priority (some, within));
      cost = refl;
      backup = refl;
      period = refl;
      priority = refl;
    }

-- the sheet that `mend` returns: as many bytes of the output as it says were written
abbrev pub returned : List ℕ → List ℕ → List ℕ
returned s out = take (mend_answer s out).written (mend_leaves s out)

-- the list that it returns
abbrev pub changes_listed : List ℕ → List ℕ → List Change
changes_listed s out = list_of (mend_answer s out).changes

-- a sheet that is good once mended is complete
good-whole : (s : List ℕ) → Bytes s → sheet_refusal (mended s) ≡ 0 → Complete s
unfolding sheet_refusal
good-whole s byte good = good-complete s (header-same s byte ∙ (none_of (header_refusal (mended s)) _ good).0)

-- and has at most seventeen changes
pub changes-few : (s : List ℕ) → Bytes s → sheet_refusal (mended s) ≡ 0 → length (changes_of s) ≤ 17
changes-few s byte good = all-count s (good-whole s byte good).known.0.1

-- a sheet that is not refused
module _ (s out : List ℕ) (fine : mend_refusal s out ≡ 0) where
  still-good : sheet_refusal (mended s) ≡ 0
  unfolding mend_refusal
  still-good = (none_of (sheet_refusal (mended s)) _ fine).0

  returned-is : returned s out ≡ mended s
  unfolding mend_answer mend_leaves
  returned-is = simp fine (take_at (mended s) _ (length (mended s)) refl)

  listed-is : changes_listed s out ≡ changes_of s
  unfolding mend_answer
  listed-is = simp fine (held-list (changes_of s))

  -- "What it returns is a good sheet"
  pub returns-good : sheet_refusal (returned s out) ≡ 0
  returns-good = ap sheet_refusal returned-is ∙ still-good

  -- and what stands after it in the output stays as it was
  pub rest-stays : mend_leaves s out ≡ returned s out ++ drop (length (returned s out)) out
  unfolding mend_leaves
  rest-stays = rw returned-is (simp fine)

  module _ (byte : Bytes s) where
    whole : Complete s
    whole = good-whole s byte still-good

    -- "the changes listed are exactly the differences between the two sheets": made one after the other to the old sheet they give the new one
    pub list-applied : apply_all (changes_listed s out) s ≡ returned s out
    list-applied = rw (listed-is, returned-is) (changes-applied s whole byte)

    -- a change is listed exactly if it is a difference between the two sheets, with the field's value in each, and the two are not the same
    pub list-exactly : (c : Change) → Memᴰ c (changes_listed s out) ↔ Difference s (returned s out) c
    list-exactly c = rw (listed-is, returned-is) (listed-exactly s whole byte c)

    -- "the cut first .., then records by place from 1, deadline before fault priority", each once
    pub list-rises : Rises 0 (changes_listed s out) (3 * count_of s + 3)
    list-rises = rw listed-is (changes-rise s)

    -- at most seventeen
    pub list-short : length (changes_listed s out) ≤ 17
    list-short = rw listed-is (changes-few s byte still-good)

    -- "nothing else differs, byte for byte": the sheet ends with its last record, its header is the same, and so are the bytes of each record but for those of a field that is changed
    pub ends-with-records : length (returned s out) ≡ size_of (edition_of s) (count_of s)
    ends-with-records = ap length returned-is ∙ mended-length s whole

    pub header-stays : take (start_of s) (returned s out) ≡ take (start_of s) s
    header-stays = ap (take (start_of s)) returned-is ∙ header-untouched s whole byte

    pub record-stays : (k : ℕ) → k < count_of s → Kept (sheet_record s k) (part_of s k) (part_of (returned s out) k)
    record-stays k below = rw returned-is (record-untouched s whole byte k below)

    -- the three changes, and "It never touches costs, periods, priorities or E", nor Q and S, nor the count
    pub records-mended : (k : ℕ) → k < count_of s → Brought (sheet_record s k) (sheet_record (returned s out) k)
    records-mended k below = subst (Brought (sheet_record s k)) (sym (ap (λ (t : List ℕ). sheet_record t k) returned-is ∙ after s whole byte k below)) (brought (sheet_record s k))

    pub figures-stay : (count_of (returned s out) ≡ count_of s) × (edition_of (returned s out) ≡ edition_of s) × (interval_of (returned s out) ≡ interval_of s) × (round_of (returned s out) ≡ round_of s) × (share_of (returned s out) ≡ share_of s)
    figures-stay =
        let x = returned s out in (count-alike x s header-stays, edition-alike x s header-stays, interval-alike x s header-stays, round-alike x s header-stays, share-alike x s header-stays)

good-fine : (s out : List ℕ) → Bytes s → sheet_refusal s ≡ 0 → length s ≤ length out → mend_refusal s out ≡ 0
unfolding mend_refusal
good-fine s out byte good room = rw (good-mended s good byte) (next-of _ good ∙ simp (le-ltb (length out) (length s) room))

-- "a good sheet comes back unchanged with an empty list"
pub good-unchanged : (s out : List ℕ) → Bytes s → sheet_refusal s ≡ 0 → length s ≤ length out
    → (mend_answer s out ≡ record { refusal = 0; written = length s; changes = held [] }) × (mend_leaves s out ≡ s ++ drop (length s) out)
unfolding mend_answer mend_leaves
good-unchanged s out byte good room = simp (good-fine s out byte good room, good-mended s good byte, good-changes s good) (refl, refl)

-- "mending twice is mending once": what was returned comes back unchanged, with an empty list
pub mend-twice : (s out out' : List ℕ) → Bytes s → mend_refusal s out ≡ 0 → length (returned s out) ≤ length out'
    → (mend_answer (returned s out) out' ≡ record { refusal = 0; written = length (returned s out); changes = held [] }) × (mend_leaves (returned s out) out' ≡ returned s out ++ drop (length (returned s out)) out')
mend-twice s out out' byte fine room = good-unchanged (returned s out) out' (subst Bytes (sym (returned-is s out fine)) (mended-byte s byte)) (returns-good s out fine) room

-- refused or not, mending the mended sheet changes nothing
pub twice-once : (s : List ℕ) → Bytes s → mended (mended s) ≡ mended s
twice-once s byte = mended-twice s byte

-- Refusals
module _ (s out : List ℕ) where
  mend-positive : (r : ℕ) → MendNumber r → 0 < r
  mend-positive r (inl k) = rule-positive r k
  mend-positive r (inr e) = omega arith

  -- "Refusals: the first sheet rule still broken after these changes, then 11."
  pub mend-in-order : InOrder MendNumber (mend_rows s out) (mend_refusal s out)
  unfolding mend_refusal
  mend-in-order =
      in_order mend-positive
      (says-joined mend-positive (sheet_rows (mended s)) _ (says-wider (λ r k. inl k) (sheet-says (mended s))) (says_row (inr refl) (ltb-tells (length out) (length (mended s))) (λ room. says_none)))

  -- 11 exactly if the mended sheet is good and the output is shorter than it
  pub mend-11 : (mend_refusal s out ≡ 11) ↔ ((sheet_refusal (mended s) ≡ 0) × (length out < length (mended s)))
  unfolding mend_refusal
  mend-11 = given-if (sheet_refusal (mended s)) 11 (sheet-in-order (mended s)).range (omega arith) (ltb-tells (length out) (length (mended s)))

  -- so an output of 79 bytes is always long enough
  pub longest : sheet_refusal (mended s) ≡ 0 → length (mended s) ≤ 79
  unfolding size_of
  longest good = let h = (good-sheet (mended s) good).0 in omega (arith, h.size, h.edition, h.count.1)

  pub room-enough : 79 ≤ length out → mend_refusal s out ≡ sheet_refusal (mended s)
  unfolding mend_refusal
  room-enough room = go (ℕ_discrete (sheet_refusal (mended s)) 0)
    where
      go : Dec (sheet_refusal (mended s) ≡ 0) → or_else (sheet_refusal (mended s)) (cond (ltb (length out) (length (mended s))) 11 0) ≡ sheet_refusal (mended s)
      go (yes good) = next-of _ good ∙ simp (le-ltb (length out) (length (mended s)) (omega (arith, longest good))) (sym good)
      go (no broken) = first_of (sheet_refusal (mended s)) _ broken

  -- refused, no byte is written, no change is listed, every figure is 0, and the output stays as it was
  pub mend-refused : (mend_refusal s out ≡ 0 → ⊥)
      → (mend_answer s out ≡ record { refusal = mend_refusal s out; written = 0; changes = record { count = 0; list = replicate 17 zero_change } }) × (changes_listed s out ≡ []) × (mend_leaves s out ≡ out)
  unfolding mend_answer mend_leaves held list_of
  mend-refused broken =
      let none : cond (eqb (mend_refusal s out) 0) (changes_of s) [] ≡ [] = beside-refusal (mend_refusal s out) _ [] broken in
      (simp (none, beside-refusal (mend_refusal s out) (length (mended s)) 0 broken), ap (λ (l : List Change). list_of (held l)) none, beside-refusal (mend_refusal s out) _ out broken)

  -- refused or not, what stands past the changes listed is zeros
  pub list-past : (place : ℕ) → (mend_answer s out).changes.count ≤ place → place < 17 → (other : Change) → get_or (mend_answer s out).changes.list place other ≡ zero_change
  unfolding mend_answer held
  list-past place high below other = held-past (cond (eqb (mend_refusal s out) 0) (changes_of s) []) place high below other

-- a sheet that its header does not say the length of, or that is shorter: nothing is cut or changed, and the refusal is 1, 2, 3 or 4
pub incomplete-left : (s : List ℕ) → (Complete s → ⊥) → (mended s ≡ s) × (1 ≤ sheet_refusal (mended s)) × (sheet_refusal (mended s) ≤ 4)
unfolding sheet_refusal
incomplete-left s short =
    let low = incomplete-low s short in
    let decides : sheet_refusal (mended s) ≡ header_refusal s = ap sheet_refusal (mended-same s short) ∙ first_of (header_refusal s) _ (λ none. omega arith) in
    (mended-same s short, omega arith, omega arith)
