-- The rules case by case: which refusal each broken rule gives once those before it hold, and what holds where none is broken.
-- Assumes nothing.
use Prim.Native.Nat.{ℕ, ◌≤◌, ◌<◌}
use mathlib.Core.Path.{◌≡◌, refl, sym, ◌∙◌}
use mathlib.Core.Bool.{Bool, true, false, cond, not, ◌||◌}
use mathlib.Core.List.{List}
use native.Mathlib.Nat.{suc-ne-zero}
use native.Mathlib.Omega.{arith}
use borrow.Author.Tests.{eq-eqb, ne_eqb, lt-ltb, le-ltb, ltb-true, ltb-false, eqb-true, eqb-false, not-false}
use lib.Dec.{eqb, ltb}
use lib.ListN.{length}
use Rattle.places.proofs.Tells.{Tells, ltb-tells, eqb_tells, or-tells, neither}
use Rattle.places.proofs.Refusals.{next-of, first_of, none_of, first-all, passed}
use Rattle.sheet.specs.declared.Record.{Record}
use Rattle.sheet.specs.declared.Table.{Table}
use Rattle.sheet.specs.Layout.{count_of, edition_of, interval_of, round_of, share_of, start_of, said_size, table_edition, table_size, sheet_record, record_at}
use Rattle.sheet.specs.Rules.{outside, wrong_share, taken, refusal_of, record_refusal, records_refusal, size_refusal, header_refusal, sheet_refusal, figures_refusal, table_refusal}
use Rattle.sheet.specs.Broken.{Outside}
use Rattle.sheet.specs.Answers.{place_refusal, write_refusal}

-- `outside` tells "0 or above"
pub outside-tells : (x limit : ℕ) → Tells (Outside x limit) (outside x limit)
unfolding outside
outside-tells x limit = or-tells (eqb_tells x 0) (ltb-tells limit x)

-- what is not outside lies from 1 to the limit
pub within : (x limit : ℕ) → outside x limit ≡ false → (1 ≤ x) × (x ≤ limit)
unfolding outside
within x limit e =
    let tests : (eqb x 0 ≡ false) × (ltb limit x ≡ false) = neither (eqb x 0) (ltb limit x) e in
    let some : x ≡ 0 → ⊥ = eqb-false x 0 tests.0 in
    omega (arith, ltb-false limit x tests.1)

pub outside-within : (x limit : ℕ) → (1 ≤ x) × (x ≤ limit) → outside x limit ≡ false
unfolding outside
outside-within x limit h = simp (ne_eqb x 0 (λ e. omega arith), le-ltb limit x h.1)

-- what a record that none of the rules 6 to 10 refuses is known for
pub record Good (n : ℕ) (is_taken : Bool) (r : Record) : Type 0 where
  pub cost : (1 ≤ r.cost) × (r.cost ≤ r.deadline)
  pub backup : (1 ≤ r.backup) × (r.backup ≤ r.deadline)
  pub deadline : r.deadline ≤ r.period
  pub priority : (1 ≤ r.priority) × (r.priority ≤ n)
  pub fresh : is_taken ≡ false
  pub fault : (1 ≤ r.fault_priority) × (r.fault_priority ≤ r.priority)

pub good-record : (n : ℕ) (is_taken : Bool) (r : Record) → refusal_of n is_taken r ≡ 0 → Good n is_taken r
unfolding refusal_of
good-record n is_taken r e =
    let six = passed (outside r.cost r.deadline) 5 _ e in
    let seven = passed (outside r.backup r.deadline) 6 _ six.1 in
    let eight = passed (ltb r.period r.deadline) 7 _ seven.1 in
    let nine = passed (outside r.priority n || is_taken) 8 _ eight.1 in
    let ten = passed (outside r.fault_priority r.priority) 9 _ nine.1 in
    let priority = neither (outside r.priority n) is_taken nine.0 in
    record {
      cost = within r.cost r.deadline six.0;
      backup = within r.backup r.deadline seven.0;
      deadline = ltb-false r.period r.deadline eight.0;
      priority = within r.priority n priority.0;
      fresh = priority.1;
      fault = within r.fault_priority r.priority ten.0;
    }

-- the refusals of one record
module _ (n : ℕ) (is_taken : Bool) (r : Record) where
  pub record-6 : outside r.cost r.deadline ≡ true → 6 ≡ refusal_of n is_taken r
  unfolding refusal_of
  record-6 a = simp a

  module _ (a : outside r.cost r.deadline ≡ false) where
    pub record-7 : outside r.backup r.deadline ≡ true → 7 ≡ refusal_of n is_taken r
    unfolding refusal_of
    record-7 b = simp (a, b)

    module _ (b : outside r.backup r.deadline ≡ false) where
      pub record-8 : r.period < r.deadline → 8 ≡ refusal_of n is_taken r
      unfolding refusal_of
      record-8 h = simp (a, b, lt-ltb r.period r.deadline h)

      module _ (h : r.deadline ≤ r.period) where
        pub record-9 : outside r.priority n ≡ true → 9 ≡ refusal_of n is_taken r
        unfolding refusal_of
        record-9 d = simp (a, b, le-ltb r.period r.deadline h, d)

        module _ (d : outside r.priority n ≡ false) where
          pub record-9-taken : is_taken ≡ true → 9 ≡ refusal_of n is_taken r
          unfolding refusal_of
          record-9-taken t = simp (a, b, le-ltb r.period r.deadline h, d, t)

          module _ (t : is_taken ≡ false) where
            pub record-10 : outside r.fault_priority r.priority ≡ true → 10 ≡ refusal_of n is_taken r
            unfolding refusal_of
            record-10 f = simp (a, b, le-ltb r.period r.deadline h, d, t, f)

            pub record-good : outside r.fault_priority r.priority ≡ false → 0 ≡ refusal_of n is_taken r
            unfolding refusal_of
            record-good f = simp (a, b, le-ltb r.period r.deadline h, d, t, f)

-- the refusals of what a header says of its sheet's length
module _ (s : List ℕ) where
  pub size-1 : length s < 3 → 1 ≡ size_refusal s
  size-1 h = simp (lt-ltb (length s) 3 h)

  module _ (a : 3 ≤ length s) where
    pub size-2 : outside (count_of s) 8 ≡ true → 2 ≡ size_refusal s
    size-2 b = simp (le-ltb (length s) 3 a, b)

    module _ (b : outside (count_of s) 8 ≡ false) where
      pub size-3 : 1 < edition_of s → 3 ≡ size_refusal s
      size-3 d = simp (le-ltb (length s) 3 a, b, lt-ltb 1 (edition_of s) d)

      pub size-good : edition_of s ≤ 1 → 0 ≡ size_refusal s
      size-good d = simp (le-ltb (length s) 3 a, b, le-ltb 1 (edition_of s) d)

-- what a header that says how long its sheet is is known for
pub record GoodSize (s : List ℕ) : Type 0 where
  pub long : 3 ≤ length s
  pub count : outside (count_of s) 8 ≡ false
  pub edition : edition_of s ≤ 1

pub good-size : (s : List ℕ) → size_refusal s ≡ 0 → GoodSize s
good-size s e =
    let one = passed (ltb (length s) 3) 0 _ e in
    let two = passed (outside (count_of s) 8) 1 _ one.1 in
    let three = passed (ltb 1 (edition_of s)) 2 _ two.1 in
    record { long = ltb-false (length s) 3 one.0; count = two.0; edition = ltb-false 1 (edition_of s) three.0 }

-- no number above 3 is given of it
pub size_low : (s : List ℕ) → size_refusal s ≤ 3
size_low s = go (ltb (length s) 3) (outside (count_of s) 8) (ltb 1 (edition_of s))
  where
    go : (a b c : Bool) → cond a 1 (cond b 2 (cond c 3 0)) ≤ 3
    go true b c = omega arith
    go false true c = omega arith
    go false false true = omega arith
    go false false false = omega arith

-- the refusals of a header: of its length, and then the others
module _ (s : List ℕ) where
  pub header-size : (size_refusal s ≡ 0 → ⊥) → size_refusal s ≡ header_refusal s
  unfolding header_refusal
  header-size broken = sym (first_of (size_refusal s) _ broken)

  module _ (z : size_refusal s ≡ 0) where
    pub header-1-again : length s < start_of s → 1 ≡ header_refusal s
    unfolding header_refusal
    header-1-again h = sym (next-of _ z ∙ simp (lt-ltb (length s) (start_of s) h))

    module _ (h : start_of s ≤ length s) where
      pub header-4 : (length s ≡ said_size s → ⊥) → 4 ≡ header_refusal s
      unfolding header_refusal
      header-4 e = sym (next-of _ z ∙ simp (le-ltb (length s) (start_of s) h, ne_eqb (length s) (said_size s) e))

      module _ (e : length s ≡ said_size s) where
        pub header-5 : interval_of s ≡ 0 → 5 ≡ header_refusal s
        unfolding header_refusal
        header-5 f = sym (next-of _ z ∙ simp (le-ltb (length s) (start_of s) h, eq-eqb (length s) (said_size s) e, eq-eqb (interval_of s) 0 f))

        module _ (f : interval_of s ≡ 0 → ⊥) where
          -- after 5 the share decides
          pub header-share : cond (wrong_share (edition_of s) (round_of s) (share_of s)) 18 0 ≡ header_refusal s
          unfolding header_refusal
          header-share = sym (next-of _ z ∙ simp (le-ltb (length s) (start_of s) h, eq-eqb (length s) (said_size s) e, ne_eqb (interval_of s) 0 f))

          pub header-18 : wrong_share (edition_of s) (round_of s) (share_of s) ≡ true → 18 ≡ header_refusal s
          header-18 g = simp g at header-share

          pub header-good : wrong_share (edition_of s) (round_of s) (share_of s) ≡ false → 0 ≡ header_refusal s
          header-good g = simp g at header-share

-- what a header that is not refused is known for
pub record GoodHeader (s : List ℕ) : Type 0 where
  pub long : 3 ≤ length s
  pub count : (1 ≤ count_of s) × (count_of s ≤ 8)
  pub edition : edition_of s ≤ 1
  pub header : start_of s ≤ length s
  pub size : length s ≡ said_size s
  pub interval : interval_of s ≡ 0 → ⊥
  pub share : wrong_share (edition_of s) (round_of s) (share_of s) ≡ false

pub good-header : (s : List ℕ) → header_refusal s ≡ 0 → GoodHeader s
unfolding header_refusal
good-header s e =
    let both = none_of (size_refusal s) _ e in
    let said = good-size s both.0 in
    let again = passed (ltb (length s) (start_of s)) 0 _ both.1 in
    let four = passed (not (eqb (length s) (said_size s))) 3 _ again.1 in
    let five = passed (eqb (interval_of s) 0) 4 _ four.1 in
    let last = passed (wrong_share (edition_of s) (round_of s) (share_of s)) 17 _ five.1 in
    record {
      long = said.long;
      count = within (count_of s) 8 said.count;
      edition = said.edition;
      header = ltb-false (length s) (start_of s) again.0;
      size = eqb-true (length s) (said_size s) (not-false (eqb (length s) (said_size s)) four.0);
      interval = eqb-false (interval_of s) 0 five.0;
      share = last.0;
    }

-- the refusals of a table's figures, and the table's once they are good
module _ (t : Table) where
  pub figures-2 : outside t.count 8 ≡ true → 2 ≡ figures_refusal t
  figures-2 a = simp a

  module _ (a : outside t.count 8 ≡ false) where
    pub figures-5 : t.interval ≡ 0 → 5 ≡ figures_refusal t
    figures-5 b = simp (a, eq-eqb t.interval 0 b)

    module _ (b : t.interval ≡ 0 → ⊥) where
      pub figures-18 : wrong_share (table_edition t) t.round t.share ≡ true → 18 ≡ figures_refusal t
      figures-18 d = simp (a, ne_eqb t.interval 0 b, d)

      module _ (d : wrong_share (table_edition t) t.round t.share ≡ false) where
        pub figures-good : 0 ≡ figures_refusal t
        figures-good = simp (a, ne_eqb t.interval 0 b, d)

        pub table-records : records_refusal t.count (record_at t.records) ≡ table_refusal t
        unfolding table_refusal
        table-records = sym (next-of _ (sym figures-good))

-- what a table whose figures are not refused is known for
pub record GoodFigures (t : Table) : Type 0 where
  pub count : (1 ≤ t.count) × (t.count ≤ 8)
  pub interval : t.interval ≡ 0 → ⊥
  pub share : wrong_share (table_edition t) t.round t.share ≡ false

pub good-figures : (t : Table) → figures_refusal t ≡ 0 → GoodFigures t
good-figures t e =
    let two = passed (outside t.count 8) 1 _ e in
    let five = passed (eqb t.interval 0) 4 _ two.1 in
    let last = passed (wrong_share (table_edition t) t.round t.share) 17 _ five.1 in
    record { count = within t.count 8 two.0; interval = eqb-false t.interval 0 five.0; share = last.0 }

-- what a table that is not refused is known for
pub record GoodTable (t : Table) : Type 0 where
  pub count : (1 ≤ t.count) × (t.count ≤ 8)
  pub interval : t.interval ≡ 0 → ⊥
  pub share : wrong_share (table_edition t) t.round t.share ≡ false
  pub records : records_refusal t.count (record_at t.records) ≡ 0

pub good-table : (t : Table) → table_refusal t ≡ 0 → GoodTable t
unfolding table_refusal
good-table t e =
    let both = none_of (figures_refusal t) _ e in
    let figures = good-figures t both.0 in
    record { count = figures.count; interval = figures.interval; share = figures.share; records = both.1 }

-- what a sheet that is not refused is known for
pub good-sheet : (s : List ℕ) → sheet_refusal s ≡ 0 → GoodHeader s × (records_refusal (count_of s) (sheet_record s) ≡ 0)
unfolding sheet_refusal
good-sheet s e =
    let both = none_of (header_refusal s) (records_refusal (count_of s) (sheet_record s)) e in
    (good-header s both.0, both.1)

-- each record of records that are not refused is good
pub good-at : (n : ℕ) (at : ℕ → Record) → records_refusal n at ≡ 0 → (place : ℕ) → place < n → Good n (taken at place (at place).priority) (at place)
unfolding records_refusal record_refusal
good-at n at e place below = good-record n _ (at place) (first-all (record_refusal n at) n e place below)

-- a place that rule 12 lets through is below the count
pub place-below : (place n : ℕ) → ◌≡◌ {A = ℕ} (cond (ltb place n) 0 12) 0 → place < n
place-below place n e = ltb-true place n (kept (ltb place n) e)
  where
    kept : (b : Bool) → ◌≡◌ {A = ℕ} (cond b 0 12) 0 → b ≡ true
    kept true z = refl
    kept false z = absurd (suc-ne-zero 11 z)

-- what a place that is not refused is known for
pub good-place : (s : List ℕ) (place : ℕ) → place_refusal s place ≡ 0 → GoodHeader s × (place < count_of s)
unfolding place_refusal
good-place s place e =
    let both = none_of (sheet_refusal s) (cond (ltb place (count_of s)) 0 12) e in
    ((good-sheet s both.0).0, place-below place (count_of s) both.1)

-- the refusals of a write
module _ (t : Table) (out : List ℕ) where
  pub write-refused : (table_refusal t ≡ 0 → ⊥) → write_refusal t out ≡ table_refusal t
  unfolding write_refusal
  write-refused = first_of (table_refusal t) _

  module _ (good : table_refusal t ≡ 0) where
    pub write-short : length out < table_size t → write_refusal t out ≡ 11
    unfolding write_refusal
    write-short h = next-of _ good ∙ simp (lt-ltb (length out) (table_size t) h)

    pub write-fits : table_size t ≤ length out → write_refusal t out ≡ 0
    unfolding write_refusal
    write-fits h = next-of _ good ∙ simp (le-ltb (length out) (table_size t) h)
