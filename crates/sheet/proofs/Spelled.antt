-- The layout spelled out in bytes: what the bytes of a header, in either edition, and of a record hold, field by field, and what they are put as.
-- Assumes nothing.
use Prim.Native.Nat.{ℕ, zero, suc, ◌+◌, ◌*◌, ◌/◌, ◌%◌, ◌<◌, ◌≤◌}
use mathlib.Core.Path.{◌≡◌, refl, sym, ap, ◌∙◌}
use mathlib.Core.List.{List, [], ◌∷◌, ◌++◌}
use native.Mathlib.Nat.{not-suc-le-zero, le_of_suc-le-suc}
use native.Mathlib.Omega.{arith}
use lib.Dec.{lit<}
use lib.Seq.{take_all}
use lib.ListN.{length, get_or, take}
use Rattle.sheet.specs.declared.Record.{Record}
use Rattle.sheet.specs.Packing.{bits_of, regrouped}
use Rattle.sheet.specs.Layout.{header_widths, header_size, record_widths, bytes, header_of, count_of, edition_of, interval_of, new_field, record_from, record_of, fields_of, record_bytes}
use Rattle.sheet.proofs.Packing.{Fit, none, one, join_first, split-first}
use Rattle.sheet.proofs.Editions.{Edition, old, new}

-- the first n values of a function, as a list
abbrev pub spelled : {A : Type 0} → ℕ → (ℕ → A) → List A
spelled zero f = []
spelled (suc n) f = f 0 ∷ spelled n (λ k. f (suc k))

-- the start of a list, element by element
pub spelled-take : {A : Type 0} (n : ℕ) (l : List A) (d : A) → n ≤ length l → spelled n (λ k. get_or l k d) ≡ take n l
spelled-take zero l d h = refl
spelled-take (suc n) [] d h = absurd (not-suc-le-zero h)
spelled-take (suc n) (x ∷ l) d h = ap (λ (r : List _). x ∷ r) (spelled-take n l d (le_of_suc-le-suc h))

-- a byte at each place
abbrev pub Bytes : List ℕ → Type 0
Bytes l = (k : ℕ) → get_or l k 0 < 256

-- bytes fit as many widths of 8 bits
pub bytes_fit : (l : List ℕ) → Bytes l → Fit (bytes (length l)) l
bytes_fit [] h = none
bytes_fit (b ∷ l) h = one (h 0) (bytes_fit l (λ k. h (suc k)))

-- and what fits widths of 8 bits are bytes
pub fit-bytes : (n : ℕ) {l : List ℕ} → Fit (bytes n) l → Bytes l
fit-bytes zero none k = lit< tt
fit-bytes (suc n) (one h f) zero = h
fit-bytes (suc n) (one h f) (suc k) = fit-bytes n f k

-- a list of known length, element by element
pub listed : (l : List ℕ) (n : ℕ) → length l ≡ n → l ≡ spelled n (λ k. get_or l k 0)
listed l n e = sym (spelled-take n l 0 (omega arith) ∙ take_all n l (omega arith))

regrouped-none : regrouped [] [] [] ≡ []
unfolding regrouped
regrouped-none = refl

-- m widths of 16 bits before others, and the same bits as bytes
abbrev words : ℕ → List ℕ → List ℕ
words zero us = us
words (suc m) us = 16 ∷ words m us

abbrev halves : ℕ → List ℕ → List ℕ
halves zero us = us
halves (suc m) us = 8 ∷ 8 ∷ halves m us

-- both take as many bits
same_bits : (m : ℕ) (ws us : List ℕ) → bits_of ws ≡ bits_of us → bits_of (halves m ws) ≡ bits_of (words m us)
same_bits zero ws us e = e
same_bits (suc m) ws us e = omega (arith, same_bits m ws us e)

-- 2m bytes of a function before others, and the m fields of two bytes each that they hold
abbrev run : ℕ → (ℕ → ℕ) → List ℕ → List ℕ
run zero f vs = vs
run (suc m) f vs = f 0 ∷ f 1 ∷ run m (λ k. f (suc (suc k))) vs

abbrev pub pairs : ℕ → (ℕ → ℕ) → List ℕ → List ℕ
pairs zero f vs = vs
pairs (suc m) f vs = (f 0 * 256 + f 1) ∷ pairs m (λ k. f (suc (suc k))) vs

-- a run of bytes fits its widths
run-fit : (m : ℕ) (f : ℕ → ℕ) → ((k : ℕ) → f k < 256) → {ws vs : List ℕ} → Fit ws vs → Fit (halves m ws) (run m f vs)
run-fit zero f h fit = fit
run-fit (suc m) f h fit = one (h 0) (one (h 1) (run-fit m (λ k. f (suc (suc k))) (λ k. h (suc (suc k))) fit))

-- a run of bytes read as fields of 16 bits, for every number of them
pairs-read : (m : ℕ) (f : ℕ → ℕ) → ((k : ℕ) → f k < 256) → (us : List ℕ) {ws vs : List ℕ} → Fit ws vs → bits_of ws ≡ bits_of us
    → regrouped (halves m ws) (words m us) (run m f vs) ≡ pairs m f (regrouped ws us vs)
pairs-read zero f h us fit e = refl
pairs-read (suc m) f h us {ws} fit e =
    let later : (k : ℕ) → f (suc (suc k)) < 256 = λ k. h (suc (suc k)) in
    join_first 8 8 (f 0) (f 1) (words m us) (run-fit m (λ k. f (suc (suc k))) later fit) (same_bits m ws us e)
    ∙ ap (λ (r : List ℕ). (f 0 * 256 + f 1) ∷ r) (pairs-read m (λ k. f (suc (suc k))) later us fit e)

-- the two bytes of each field of 16 bits, before others
abbrev pub word_bytes : List ℕ → List ℕ → List ℕ
word_bytes [] us = us
word_bytes (x ∷ xs) us = x / 256 ∷ x % 256 ∷ word_bytes xs us

-- a run of fields of 16 bits put as bytes, for every number of them
words-put : (xs ws vs us : List ℕ) → Fit (words (length xs) ws) (xs ++ vs) → bits_of ws ≡ bits_of us
    → regrouped (words (length xs) ws) (halves (length xs) us) (xs ++ vs) ≡ word_bytes xs (regrouped ws us vs)
words-put [] ws vs us fit e = refl
words-put (x ∷ xs) ws vs us (one h fit) e =
    split-first 8 8 x (halves (length xs) us) fit (sym (same_bits (length xs) us ws (sym e)))
    ∙ ap (λ (r : List ℕ). x / 256 ∷ x % 256 ∷ r) (words-put xs ws vs us fit e)

-- a byte and a run of fields: a header's bits, in either edition
header-run : (m : ℕ) (f : ℕ → ℕ) → ((k : ℕ) → f k < 256)
    → regrouped (8 ∷ halves m []) (4 ∷ 4 ∷ words m []) (f 0 ∷ run m (λ k. f (suc k)) []) ≡ f 0 / 16 ∷ f 0 % 16 ∷ pairs m (λ k. f (suc k)) []
header-run m f h =
    split-first 4 4 (f 0) (words m []) (run-fit m (λ k. f (suc k)) (λ k. h (suc k)) none) (same_bits m [] [] refl)
    ∙ ap (λ (r : List ℕ). f 0 / 16 ∷ f 0 % 16 ∷ r) (pairs-read m (λ k. f (suc k)) (λ k. h (suc k)) [] none refl ∙ ap (pairs m (λ k. f (suc k))) regrouped-none)

-- the header's fields by its bytes
header-fields : {e : ℕ} → Edition e → (f : ℕ → ℕ) → ((k : ℕ) → f k < 256)
    → regrouped (bytes (header_size e)) (header_widths e) (spelled (header_size e) f) ≡ f 0 / 16 ∷ f 0 % 16 ∷ pairs (1 + 2 * e) (λ k. f (suc k)) []
header-fields old f h = header-run 1 f h
header-fields new f h = header-run 3 f h

-- a sheet at least as long as an edition's header has that header's fields in its first bytes
module _ {e : ℕ} (edition : Edition e) (sheet : List ℕ) (long : header_size e ≤ length sheet) (h : Bytes sheet) where
  pub header-spelled : header_of e sheet ≡ get_or sheet 0 0 / 16 ∷ get_or sheet 0 0 % 16 ∷ pairs (1 + 2 * e) (λ k. get_or sheet (suc k) 0) []
  unfolding header_of
  header-spelled = ap (regrouped (bytes (header_size e)) (header_widths e)) (sym (spelled-take (header_size e) sheet 0 long)) ∙ header-fields edition (λ k. get_or sheet k 0) h

-- the fields that both editions have
module _ (sheet : List ℕ) (long : 3 ≤ length sheet) (h : Bytes sheet) where
  pub count-spelled : count_of sheet ≡ get_or sheet 0 0 / 16
  unfolding count_of
  count-spelled = ap (λ (l : List ℕ). get_or l 0 0) (header-spelled old sheet long h)

  pub edition-spelled : edition_of sheet ≡ get_or sheet 0 0 % 16
  unfolding edition_of
  edition-spelled = ap (λ (l : List ℕ). get_or l 1 0) (header-spelled old sheet long h)

  pub interval-spelled : interval_of sheet ≡ get_or sheet 1 0 * 256 + get_or sheet 2 0
  unfolding interval_of
  interval-spelled = ap (λ (l : List ℕ). get_or l 2 0) (header-spelled old sheet long h)

-- the fields of the new edition
module _ (sheet : List ℕ) (is-new : edition_of sheet ≡ 1) (long : 7 ≤ length sheet) (h : Bytes sheet) where
  pub new-spelled : (index : ℕ) → index < 2 → new_field sheet index ≡ get_or sheet (3 + 2 * index) 0 * 256 + get_or sheet (3 + 2 * index + 1) 0
  new-spelled index low = ap (λ (e : ℕ). get_or (header_of e sheet) (3 + index) 1) is-new ∙ ap (λ (l : List ℕ). get_or l (3 + index) 1) (header-spelled new sheet long h) ∙ each index low
    where
      each : (k : ℕ) → k < 2 → get_or (get_or sheet 0 0 / 16 ∷ get_or sheet 0 0 % 16 ∷ pairs 3 (λ j. get_or sheet (suc j) 0) []) (3 + k) 1 ≡ get_or sheet (3 + 2 * k) 0 * 256 + get_or sheet (3 + 2 * k + 1) 0
      each zero h = refl
      each (suc zero) h = refl
      each (suc (suc k)) h = absurd (omega arith)

-- a record's fields by its bytes
record-fields : (f : ℕ → ℕ) → ((k : ℕ) → f k < 256) → regrouped (bytes 9) record_widths (spelled 9 f) ≡ pairs 4 f (f 8 / 16 ∷ f 8 % 16 ∷ [])
record-fields f h =
    pairs-read 4 f h (4 ∷ 4 ∷ []) (one (h 8) none) refl
    ∙ ap (pairs 4 f) (split-first 4 4 (f 8) [] none refl ∙ ap (λ (r : List ℕ). f 8 / 16 ∷ f 8 % 16 ∷ r) regrouped-none)

-- the record that nine bytes hold
pub record-spelled : (part : List ℕ) → length part ≡ 9 → Bytes part
    → record_of part ≡ record {
      cost = get_or part 0 0 * 256 + get_or part 1 0;
      backup = get_or part 2 0 * 256 + get_or part 3 0;
      deadline = get_or part 4 0 * 256 + get_or part 5 0;
      period = get_or part 6 0 * 256 + get_or part 7 0;
      priority = get_or part 8 0 / 16;
      fault_priority = get_or part 8 0 % 16;
    }
unfolding record_of record_from
record-spelled part e h =
    ap record_from (ap (regrouped (bytes 9) record_widths) (sym (spelled-take 9 part 0 (omega arith) ∙ take_all 9 part (omega arith))) ∙ record-fields (λ k. get_or part k 0) h)

-- a record's fields are within their widths
pub record Sized (r : Record) : Type 0 where
  pub cost : r.cost < 65536
  pub backup : r.backup < 65536
  pub deadline : r.deadline < 65536
  pub period : r.period < 65536
  pub priority : r.priority < 16
  pub fault : r.fault_priority < 16

pub fields_fit : (r : Record) → Sized r → Fit record_widths (fields_of r)
unfolding fields_of
fields_fit r z = one z.cost (one z.backup (one z.deadline (one z.period (one z.priority (one z.fault none)))))

-- the nine bytes that a record is put as
pub record-put : (r : Record) → Sized r → record_bytes r ≡ word_bytes (r.cost ∷ r.backup ∷ r.deadline ∷ r.period ∷ []) ((r.priority * 16 + r.fault_priority) ∷ [])
unfolding record_bytes fields_of
record-put r z =
    let fields = r.cost ∷ r.backup ∷ r.deadline ∷ r.period ∷ [] in
    words-put fields (4 ∷ 4 ∷ []) (r.priority ∷ r.fault_priority ∷ []) (8 ∷ []) (fields_fit r z) refl
    ∙ ap (word_bytes fields) (join_first 4 4 r.priority r.fault_priority [] none refl ∙ ap (λ (l : List ℕ). (r.priority * 16 + r.fault_priority) ∷ l) regrouped-none)

-- the bytes that a byte's two halves and a run of fields are put as
header-words : (a b : ℕ) (xs : List ℕ) → Fit (words (length xs) []) (xs ++ [])
    → regrouped (4 ∷ 4 ∷ words (length xs) []) (8 ∷ halves (length xs) []) (a ∷ b ∷ (xs ++ [])) ≡ (a * 16 + b) ∷ word_bytes xs []
header-words a b xs fit =
    join_first 4 4 a b (halves (length xs) []) fit (sym (same_bits (length xs) [] [] refl))
    ∙ ap (λ (l : List ℕ). (a * 16 + b) ∷ l) (words-put xs [] [] [] fit refl ∙ ap (word_bytes xs) regrouped-none)

-- the bytes that a header is put as
pub header-put : {e : ℕ} → Edition e → (count interval round share : ℕ) → interval < 65536 → round < 65536 → share < 65536
    → regrouped (header_widths e) (bytes (header_size e)) (count ∷ e ∷ interval ∷ take (2 * e) (round ∷ share ∷ [])) ≡ (count * 16 + e) ∷ word_bytes (interval ∷ take (2 * e) (round ∷ share ∷ [])) []
header-put old count interval round share i r s = header-words count 0 (interval ∷ []) (one i none)
header-put new count interval round share i r s = header-words count 1 (interval ∷ round ∷ share ∷ []) (one i (one r (one s none)))
