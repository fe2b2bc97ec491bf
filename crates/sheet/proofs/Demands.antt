-- The demands on sheets in the request's words: written back as the same bytes, read back as the same table, one encoding each; what is read by rank; what the old edition means; and which record a table is refused for.
-- That the rules are tried in the document's order is `sheet-in-order` and `table-in-order` of Order.antt. Assumes nothing.
use Prim.Native.Nat.{ℕ, ◌+◌, ◌*◌, ◌-◌, ◌≤◌, ◌<◌}
use mathlib.Core.Path.{◌≡◌, refl, sym, ap, ap₂, ◌∙◌, subst}
use mathlib.Core.Bool.{Bool, true, false, cond, ◌||◌}
use mathlib.Core.Logic.{◌⊎◌, ◌↔◌, inl, inr, ⊎_elim}
use mathlib.Core.List.{List, ◌++◌}
use native.Mathlib.Decide.{ℕ_discrete}
use native.Mathlib.Omega.{arith}
use borrow.Author.Tests.{ne_eqb}
use lib.Dec.{eqb, ltb}
use lib.ListN.{length, get_or, take, drop}
use lib.Seq.{take_at}
use Rattle.places.specs.Refusals.{first_below}
use Rattle.places.proofs.Refusals.{next-of, first_of, none_of}
use Rattle.sheet.specs.declared.Record.{Record}
use Rattle.sheet.specs.declared.Table.{Table}
use Rattle.sheet.specs.Layout.{count_of, edition_of, round_of, share_of, start_of, size_of, sheet_record, record_at, table_of, cleared, is_whole, edition_for, table_edition, table_size, sheet_of}
use Rattle.sheet.specs.Columns.{Held}
use Rattle.sheet.specs.Rules.{outside, wrong_share, taken, refusal_of, record_refusal, records_refusal, sheet_refusal, figures_refusal, table_refusal, broken_below, broken_place}
use Rattle.sheet.specs.Answers.{read_answer, ranked_answer, columns_left, faults_left, ranks_left, write_refusal, write_answer, write_leaves, rewrite_refusal, rewrite_answer, rewrite_leaves}
use Rattle.sheet.proofs.Spelled.{Bytes}
use Rattle.sheet.proofs.Editions.{Edition, old, new, edition-of, edition-low, whole-old, right-share}
use Rattle.sheet.proofs.Stores.{length-sheet}
use Rattle.sheet.proofs.Cases.{good-sheet, good-table, size-good, header-good, table-records, write-fits, outside-within}
use Rattle.sheet.proofs.Judging.{broken-none, broken-at}
use Rattle.sheet.proofs.Agree.{records-agree, room_at, room-judged}
use Rattle.sheet.proofs.Ranks.{ranked}
use Rattle.sheet.proofs.ByRank.{columns-held, faults-held, ranks-held, columns-past, faults-past, ranks-past}
use Rattle.sheet.proofs.Return.{Wide, old-fields, edition-kept, size-kept, sheet-kept, table_kept, count-read, edition-read, interval-read, round-read, share-read, records-read}

-- a good sheet is read as its table
pub read-good : (s : List ℕ) → sheet_refusal s ≡ 0 → read_answer s ≡ record { refusal = 0; table = table_of s }
unfolding read_answer
read-good s good = simp good

-- the table of a good sheet is good
pub table-good : (s : List ℕ) → sheet_refusal s ≡ 0 → table_refusal (table_of s) ≡ 0
unfolding table_of
table-good s good =
    let header = (good-sheet s good).0 in
    sym (table-records (table_of s) (outside-within (count_of s) 8 header.count) header.interval (ap (λ (e : ℕ). wrong_share e (round_of s) (share_of s)) (edition-kept s header) ∙ header.share))
    ∙ room-judged (sheet_record s) (count_of s) header.count.1 ∙ (good-sheet s good).1

-- "writes each good sheet back as the same bytes": what is read from a good sheet and written into an output at least as long is that sheet, and the bytes after it stay as they were
pub written_back : (s out : List ℕ) → Bytes s → sheet_refusal s ≡ 0 → length s ≤ length out
    → (write_answer (read_answer s).table out ≡ record { refusal = 0; written = length s }) × (write_leaves (read_answer s).table out ≡ s ++ drop (length s) out)
unfolding write_answer write_leaves
written_back s out byte good long =
    let header = (good-sheet s good).0 in
    let size : table_size (table_of s) ≡ length s = sym (size-kept s header) in
    let fits : write_refusal (table_of s) out ≡ 0 = write-fits (table_of s) out (table-good s good) (subst (λ (n : ℕ). n ≤ length out) (sym size) long) in
    rw (read-good s good) (simp (fits, size), simp (fits, sheet-kept s byte header, size))

-- to rewrite a good sheet is to write the table that is read from it
module _ (s out : List ℕ) (byte : Bytes s) (good : sheet_refusal s ≡ 0) where
  refused-same : write_refusal (table_of s) out ≡ rewrite_refusal s out
  unfolding write_refusal rewrite_refusal
  refused-same = next-of _ (table-good s good) ∙ ap (λ (n : ℕ). cond (ltb (length out) n) 11 0) (sym (size-kept s (good-sheet s good).0)) ∙ sym (next-of _ good)

  pub rewritten : (write_answer (read_answer s).table out ≡ rewrite_answer s out) × (write_leaves (read_answer s).table out ≡ rewrite_leaves s out)
  unfolding write_answer write_leaves rewrite_answer rewrite_leaves
  rewritten = let header = (good-sheet s good).0 in rw (read-good s good) (simp (refused-same, ← size-kept s header), simp (refused-same, sheet-kept s byte header, ← size-kept s header))

-- a good sheet's figures are read by rank as its table's
pub ranked-good : (s : List ℕ) → sheet_refusal s ≡ 0
    → ranked_answer s ≡ record { refusal = 0; count = (table_of s).count; interval = (table_of s).interval; round = (table_of s).round; share = (table_of s).share }
unfolding ranked_answer table_of
ranked-good s good = simp good

-- its columns hold the fields of each record of its table at the record's rank, the count less its priority
module _ (s : List ℕ) (good : sheet_refusal s ≡ 0) where
  -- how many there are, and the record at a place
  abbrev count : ℕ
  count = count_of s

  abbrev task : ℕ → Record
  task = record_at (table_of s).records

  few : count ≤ 8
  few = (good-sheet s good).0.count.1

  task-is : (place : ℕ) → place < count → task place ≡ sheet_record s place
  unfolding table_of
  task-is = room_at (sheet_record s) count few

  pub columns-ranked : (columns : List ℕ) → length columns ≡ 32 → (place : ℕ) → place < count → Held (columns_left s columns) (count - (task place).priority) (task place)
  unfolding columns_left
  columns-ranked columns long place below =
      rw (task-is place below) (simp good (columns-held count (sheet_record s) few (ranked count (sheet_record s) (good-sheet s good).1) columns long count (omega arith) place below))

  pub faults-ranked : (faults : List ℕ) → length faults ≡ 8 → (place : ℕ) → place < count → get_or (faults_left s faults) (count - (task place).priority) 0 ≡ (task place).fault_priority
  unfolding faults_left
  faults-ranked faults long place below =
      rw (task-is place below) (simp good (faults-held count (sheet_record s) few (ranked count (sheet_record s) (good-sheet s good).1) faults long count (omega arith) place below))

  pub ranks-ranked : (ranks : List ℕ) → length ranks ≡ 8 → (place : ℕ) → place < count → get_or (ranks_left s ranks) place 0 ≡ count - (task place).priority
  unfolding ranks_left
  ranks-ranked ranks long place below =
      rw (task-is place below) (simp good (ranks-held count (sheet_record s) few (ranked count (sheet_record s) (good-sheet s good).1) ranks long place below))

  -- and past the count they are as they were
  pub columns-rest : (columns : List ℕ) (column rank : ℕ) → count ≤ rank → rank < 8 → get_or (columns_left s columns) (8 * column + rank) 0 ≡ get_or columns (8 * column + rank) 0
  unfolding columns_left
  columns-rest columns column rank past low = simp good (columns-past count (sheet_record s) few (ranked count (sheet_record s) (good-sheet s good).1) columns column rank past low count (omega arith))

  pub faults-rest : (faults : List ℕ) (rank : ℕ) → count ≤ rank → get_or (faults_left s faults) rank 0 ≡ get_or faults rank 0
  unfolding faults_left
  faults-rest faults rank past = simp good (faults-past count (sheet_record s) few (ranked count (sheet_record s) (good-sheet s good).1) faults rank past count (omega arith))

  pub ranks-rest : (ranks : List ℕ) (place : ℕ) → count ≤ place → get_or (ranks_left s ranks) place 0 ≡ get_or ranks place 0
  unfolding ranks_left
  ranks-rest ranks place past = simp good (ranks-past count (sheet_record s) few (ranked count (sheet_record s) (good-sheet s good).1) ranks place past)

-- the sheet of a good table is good
sheet-good : (t : Table) → Wide t → table_refusal t ≡ 0 → sheet_refusal (sheet_of t) ≡ 0
unfolding sheet_refusal start_of table_size size_of
sheet-good t wide good =
    let known = good-table t good in
    let count = count-read t wide known in
    let edition = edition-read t wide known in
    let size = length-sheet t in
    let low = edition-low t.round t.share in
    next-of _
    (sym
    (header-good (sheet_of t) (sym (size-good (sheet_of t) (omega arith) (ap (λ (n : ℕ). outside n 8) count ∙ outside-within t.count 8 known.count) (omega arith))) (omega arith) (omega arith)
    (λ e. known.interval (sym (interval-read t wide known) ∙ e)) (simp (edition, round-read t wide known, share-read t wide known) known.share)))
    ∙ ap (λ (n : ℕ). records_refusal n (sheet_record (sheet_of t))) count ∙ records-agree t.count (records-read t wide known) ∙ known.records

-- "Reading what was written gives the table back with those records zero": what a good table is written as, in an output long enough, is read as the table with its records past the count zero
pub read_back : (t : Table) (out : List ℕ) → Wide t → write_refusal t out ≡ 0
    → read_answer (take (write_answer t out).written (write_leaves t out)) ≡ record { refusal = 0; table = cleared t }
unfolding write_answer write_leaves write_refusal
read_back t out wide fits =
    let good : table_refusal t ≡ 0 = (none_of (table_refusal t) _ fits).0 in
    simp (fits, take_at (sheet_of t) (drop (table_size t) out) (table_size t) (length-sheet t))
    (read-good (sheet_of t) (sheet-good t wide good) ∙ ap (λ (u : Table). record { refusal = 0; table = u }) (table_kept t wide (good-table t good)))

-- "one encoding each": two good tables with the same sheet agree up to their records past the count
pub one-encoding : (t u : Table) → Wide t → Wide u → table_refusal t ≡ 0 → table_refusal u ≡ 0 → sheet_of t ≡ sheet_of u → cleared t ≡ cleared u
one-encoding t u wt wu gt gu same = sym (table_kept t wt (good-table t gt)) ∙ ap table_of same ∙ table_kept u wu (good-table u gu)

-- "each good sheet still has one encoding": two good sheets that hold the same table are the same bytes, so no table has a sheet in each edition
pub one-sheet : (s r : List ℕ) → Bytes s → Bytes r → sheet_refusal s ≡ 0 → sheet_refusal r ≡ 0 → table_of s ≡ table_of r → s ≡ r
one-sheet s r bs br gs gr same = sym (sheet-kept s bs (good-sheet s gs).0) ∙ ap sheet_of same ∙ sheet-kept r br (good-sheet r gr).0

-- "The old edition means the whole processor, carried in the table as Q = S = 1": a good sheet is of the old edition exactly if its table is that
pub whole-processor : (s : List ℕ) → sheet_refusal s ≡ 0 → (edition_of s ≡ 0) ↔ (((table_of s).round ≡ 1) × ((table_of s).share ≡ 1))
unfolding table_of edition_for is_whole
whole-processor s good = (old-fields s, λ whole. sym (edition-kept s (good-sheet s good).0) ∙ ap₂ edition_for whole.0 whole.1)

-- "the one table allowed with S not below Q"
pub only-whole : (t : Table) → table_refusal t ≡ 0 → t.round ≤ t.share → (t.round ≡ 1) × (t.share ≡ 1)
only-whole t good above = go (table_edition t) (edition-of (table_edition t) (edition-low t.round t.share)) refl
  where
    go : (e : ℕ) → Edition e → table_edition t ≡ e → (t.round ≡ 1) × (t.share ≡ 1)
    go e old is = whole-old t.round t.share is
    go e new is = absurd (omega (arith, right-share t.round t.share is (good-table t good).share))

-- the record that a table is refused for: beside a refusal of 6 to 10 the place is one below the count, the record there breaks the rule of the refusal, and none before it breaks any
pub broken-record : (t : Table) → (6 ≤ table_refusal t) × (table_refusal t ≤ 10)
    → (broken_place t < t.count) × (record_refusal t.count (record_at t.records) (broken_place t) ≡ table_refusal t) × ((k : ℕ) → k < broken_place t → record_refusal t.count (record_at t.records) k ≡ 0)
unfolding table_refusal broken_place records_refusal
broken-record t given = go (ℕ_discrete (figures_refusal t) 0)
  where
    figures-other : (a b c : Bool) → 6 ≤ cond a 2 (cond b 5 (cond c 18 0)) → cond a 2 (cond b 5 (cond c 18 0)) ≤ 10 → ⊥
    figures-other true b c low high = omega arith
    figures-other false true c low high = omega arith
    figures-other false false true low high = omega arith
    figures-other false false false low high = omega arith

    at : ℕ → Record
    at = record_at t.records

    go : Dec (figures_refusal t ≡ 0) → (broken_place t < t.count) × (record_refusal t.count at (broken_place t) ≡ table_refusal t) × ((k : ℕ) → k < broken_place t → record_refusal t.count at k ≡ 0)
    go (no broken) =
        let same : table_refusal t ≡ figures_refusal t = first_of (figures_refusal t) _ broken in
        absurd (figures-other (outside t.count 8) (eqb t.interval 0) (wrong_share (table_edition t) t.round t.share) (omega (arith, given.0, same)) (omega (arith, given.1, same)))
    go (yes good) =
        let records : table_refusal t ≡ first_below (record_refusal t.count at) t.count = next-of _ good in
        let place : broken_place t ≡ broken_below (record_refusal t.count at) t.count = simp good in
        let found = broken-at (record_refusal t.count at) t.count (λ e. omega (arith, given.0, records, e)) in
        (omega (arith, place, found.0), ap (record_refusal t.count at) place ∙ found.1 ∙ sym records, λ k below. found.2 k (omega (arith, place)))

-- a record's refusal is 0 or from 6 to 10
record-range : (n : ℕ) (is_taken : Bool) (r : Record) → (refusal_of n is_taken r ≡ 0) ⊎ ((6 ≤ refusal_of n is_taken r) × (refusal_of n is_taken r ≤ 10))
unfolding refusal_of
record-range n is_taken r = go (outside r.cost r.deadline) (outside r.backup r.deadline) (ltb r.period r.deadline) (outside r.priority n || is_taken) (outside r.fault_priority r.priority)
  where
    go : (a b c d e : Bool) → let number : ℕ = cond a 6 (cond b 7 (cond c 8 (cond d 9 (cond e 10 0)))) in (number ≡ 0) ⊎ ((6 ≤ number) × (number ≤ 10))
    go true b c d e = inr (omega arith, omega arith)
    go false true c d e = inr (omega arith, omega arith)
    go false false true d e = inr (omega arith, omega arith)
    go false false false true e = inr (omega arith, omega arith)
    go false false false false true = inr (omega arith, omega arith)
    go false false false false false = inl refl

-- beside any other refusal, and beside none, it is 0
pub no-broken-record : (t : Table) → (table_refusal t < 6) ⊎ (10 < table_refusal t) → broken_place t ≡ 0
unfolding table_refusal broken_place records_refusal record_refusal
no-broken-record t other = go (ℕ_discrete (figures_refusal t) 0)
  where
    refusal : ℕ → ℕ
    refusal = record_refusal t.count (record_at t.records)

    none : table_refusal t ≡ first_below refusal t.count → Dec (first_below refusal t.count ≡ 0) → broken_below refusal t.count ≡ 0
    none records (yes z) = broken-none refusal t.count z
    none records (no some) =
        let found = broken-at refusal t.count some in
        let there : refusal (broken_below refusal t.count) ≡ table_refusal t = found.1 ∙ sym records in
        ⊎_elim (λ z. absurd (some (sym found.1 ∙ z))) (λ h. absurd (⊎_elim (λ low. omega (arith, there, h.0, low)) (λ high. omega (arith, there, h.1, high)) other))
        (record-range t.count (taken (record_at t.records) (broken_below refusal t.count) (record_at t.records (broken_below refusal t.count)).priority) (record_at t.records (broken_below refusal t.count)))

    go : Dec (figures_refusal t ≡ 0) → broken_place t ≡ 0
    go (no broken) = simp (ne_eqb (figures_refusal t) 0 broken)
    go (yes good) =
        let place : broken_place t ≡ broken_below refusal t.count = simp good in
        place ∙ none (next-of _ good) (ℕ_discrete (first_below refusal t.count) 0)
